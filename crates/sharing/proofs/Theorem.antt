-- THE THEOREM: a model that passes the check and the words that translate writes for it share their solutions (specs/SharedSolutions.antt); fill's
-- picks are such auxiliaries, and no others are (specs/ExactlyOne.antt); judge-rows accepts the words, and says "holds" of what fill writes exactly
-- where judge-model says it of the values.
use Rattle.std.proofs.Common.{◌≡◌, refl, sym, ap, ◌∙◌, subst, Bool, List, [], ◌∷◌, ◌++◌, ℕ, ◌+◌, ◌-◌, ◌≤◌, arith, ℤ, length, length-append, take, drop, take-append-drop, length-drop}
use Rattle.integers.specs.Bounds.{bounds_in}
use Rattle.integers.specs.Terms.{value}
use Rattle.integers.specs.declared.Bounds.{Bounds}
use Rattle.integers.proofs.Lists.{all_implies}
use Rattle.integers.proofs.Tests.{All}
use Rattle.words.specs.Word.{word}
use Rattle.words.specs.Kind as Kind
use Rattle.words.specs.Limit as Limit
use Rattle.words.specs.Variables.{variables}
use Rattle.words.specs.Refusal.{accepted}
use Rattle.models.specs.Model.{constraints, builtin}
use Rattle.models.proofs.Accepted as Accepted
use Rattle.rowsystems.specs.Reading.{read_rows}
use Rattle.rowsystems.specs.RowSystem.{rows}
use Rattle.rowsystems.proofs.ReadBack.{System, read_back}
use Rattle.rules.specs.Shared.{none_yet}
use Rattle.rules.specs.Rule.{rule}
use Rattle.rules.specs.Translation.{bounds, shared, blocks_words, system_words, auxiliaries, picks}
use Rattle.sharing.specs.SharedSolutions.{Passes, SatisfiesModel, SatisfiesRows, Completes, SharedSolutions}
use Rattle.sharing.specs.ExactlyOne.{ExactlyOne, AsManySolutions}
use Rattle.sharing.proofs.Formed.{Formed}
use Rattle.sharing.proofs.Assembly.{auxiliaries_from, rows_from, picks_from, AllFormed, picks-length}
use Rattle.sharing.proofs.Shared.{none_first, Typed, picks-satisfy, system-only}
use Rattle.sharing.proofs.WellFormed.{plain-all, all-formed}
use Rattle.sharing.proofs.Accepts.{Fine, passes-read, passes-fine}
use Rattle.sharing.proofs.Written.{items}
use Rattle.sharing.proofs.Few.{few_words, fine-count, sources-short}

-- ---- a model that passes the check

module _ (ws : List ℕ) (passes : Passes ws) where
  abbrev Vs : List Bounds
  Vs = variables ws

  abbrev sh : ℕ → Bool
  sh = shared ws

  abbrev As : List Bounds
  As = auxiliaries_from (bounds_in Vs) sh (length Vs) none_yet (constraints ws)

  pub typed : All (Typed (variables ws)) (constraints ws)
  typed = all_implies (λ c. Accepted.TypedIn Vs (builtin c)) (Typed Vs) (λ c t. (t.integers, t.booleans)) (constraints ws) (Accepted.typed ws (passes-read ws passes))

  pub fine : Fine (bounds_in Vs) sh (length Vs) none_yet (constraints ws)
  unfolding bounds
  fine = passes-fine ws passes

  few : length Vs + length As ≤ Limit.in_all
  few = fine-count (bounds_in Vs) sh (length Vs) none_yet (constraints ws) fine (omega (arith, Accepted.few-variables ws (passes-read ws passes)))

  pub plain : All (λ c. Formed (length (variables ws)) (rule (bounds_in (variables ws)) (builtin c))) (constraints ws)
  plain = plain-all Vs sh (length Vs) none_yet (constraints ws) typed fine

  pub well-formed : AllFormed (bounds_in (variables ws)) (shared ws) (length (variables ws)) none_yet (constraints ws)
  well-formed = all-formed Vs sh (length Vs) none_yet (constraints ws) (omega arith) (λ x h. absurd (h (none_first x))) typed fine

  parts : Accepted.Split ws
  parts = Accepted.split ws (passes-read ws passes)

  after-sources : List ℕ
  after-sources = blocks_words (bounds_in Vs) sh (length Vs) none_yet (constraints ws) ++ (word Kind.rows_end 0 ∷ [])

  words_are : system_words ws ≡ parts.src ++ after-sources
  unfolding system_words bounds after-sources
  words_are = ap (λ l. l ++ (blocks_words (bounds_in Vs) sh (length Vs) none_yet (constraints ws) ++ (word Kind.rows_end 0 ∷ []))) (Accepted.sources-are parts)

  -- 02, wish 10: "the limit on row words rises to 262,144"; the words never pass it
  pub never_too_many : length (system_words ws) ≤ Limit.row_words
  unfolding after-sources
  never_too_many =
      let r = passes-read ws passes in
      rw words_are
      (omega (
        arith,
        length-append parts.src after-sources,
        length-append (blocks_words (bounds_in Vs) sh (length Vs) none_yet (constraints ws)) (word Kind.rows_end 0 ∷ []),
        few_words ws r (bounds_in Vs) sh (length Vs) none_yet fine few,
        Accepted.few_words ws r,
        sources-short parts.sources,
        Accepted.few-variables ws r,
      ))

  system : System (system_words ws) (Vs ++ As) (rows_from (bounds_in Vs) sh (length Vs) none_yet (constraints ws))
  unfolding after-sources
  system =
      let few-sources : length Vs ≤ Limit.in_all = omega (arith, few) in
      rw words_are
      (read_back parts.sources few-sources
      (items (bounds_in Vs) sh (length Vs) none_yet (constraints ws) well-formed fine)
      (rw words_are at never_too_many))

  -- judge-rows refuses nothing that translate writes
  pub written_read : read_rows (system_words ws) ≡ accepted
  written_read = system.read

  -- its variables are the sources and all auxiliaries
  pub same-bounds : variables (system_words ws) ≡ variables ws ++ auxiliaries_from (bounds_in (variables ws)) (shared ws) (length (variables ws)) none_yet (constraints ws)
  same-bounds = system.the_bounds

  -- and its rows those of all blocks, numbered on
  pub same-rows : rows (system_words ws) ≡ rows_from (bounds_in (variables ws)) (shared ws) (length (variables ws)) none_yet (constraints ws)
  same-rows = system.the_rows

  auxiliaries-count : length (auxiliaries ws) ≡ length As
  unfolding auxiliaries bounds
  auxiliaries-count = refl

  -- variables and auxiliaries together
  pub few_in_all : length (variables ws) + length (auxiliaries ws) ≤ Limit.in_all
  few_in_all = rw auxiliaries-count few

  picks-count : (vs : List ℤ) → picks ws vs ≡ picks_from (bounds_in Vs) sh (value vs) (length Vs) none_yet (constraints ws)
  unfolding picks bounds
  picks-count vs = refl

  -- fill's picks are one value for each auxiliary, and satisfy the row system with the values
  pub fill-counts : (vs : List ℤ) → length (picks ws vs) ≡ length (auxiliaries ws)
  fill-counts vs = ap length (picks-count vs) ∙ picks-length (bounds_in Vs) sh (value vs) (length Vs) none_yet (constraints ws) ∙ sym auxiliaries-count

  pub fill-satisfies : (vs : List ℤ) → SatisfiesModel ws vs → SatisfiesRows (system_words ws) (vs ++ picks ws vs)
  fill-satisfies vs s = rw (picks-count vs) (picks-satisfy ws (system_words ws) sh typed plain well-formed system.the_bounds system.the_rows vs s)

  pub fill_completes : (vs : List ℤ) → SatisfiesModel ws vs → Completes ws (system_words ws) vs (picks ws vs)
  fill_completes vs s = (fill-counts vs, fill-satisfies vs s)

  -- and no others do
  pub only-fill : (vs xs : List ℤ) → Completes ws (system_words ws) vs xs → SatisfiesModel ws vs × (xs ≡ picks ws vs)
  only-fill vs xs c =
      let r = system-only ws (system_words ws) sh typed plain well-formed system.the_bounds system.the_rows vs xs (c.0 ∙ auxiliaries-count) c.1 in
      (r.0, r.1 ∙ sym (picks-count vs))

  pub shared-solutions : SharedSolutions ws (system_words ws)
  shared-solutions vs = (λ s. (picks ws vs, fill_completes vs s), λ x. (only-fill vs x.0 x.1).0)

  pub exactly-one : ExactlyOne ws (system_words ws)
  exactly-one vs s = (picks ws vs, (fill_completes vs s, λ ys c. (only-fill vs ys c).1))

  -- a solution of the row system is in two parts: one value for each variable of the model, and the auxiliaries
  pub as_many_solutions : AsManySolutions ws (system_words ws)
  as_many_solutions zs = (
    λ s.
        let parts = take-append-drop n zs in
        let r = only-fill (take n zs) (drop n zs) (counted s, subst (SatisfiesRows (system_words ws)) (sym parts) s) in
        (take n zs, (r.0, sym parts ∙ ap (λ xs. take n zs ++ xs) r.1)),
    λ h. subst (SatisfiesRows (system_words ws)) (sym h.1.1) (fill-satisfies h.0 h.1.0),
  )
    where
      n : ℕ
      n = length (variables ws)

      less : (n k : ℕ) → n + k - n ≡ k
      less n k = omega arith

      counted : SatisfiesRows (system_words ws) zs → length (drop n zs) ≡ length (auxiliaries ws)
      counted s =
          length-drop n zs
          ∙ ap (λ k. k - n) (s.one_each ∙ ap length same-bounds ∙ length-append (variables ws) As ∙ ap (λ k. n + k) (sym auxiliaries-count))
          ∙ less n (length (auxiliaries ws))
