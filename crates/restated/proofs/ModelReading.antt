-- The two passes of the reader of a model over any list of types and any count of variables: what reading the variables answers, and where the constraints are read.
use Rattle.std.proofs.Common.{◌≡◌, refl, ap, sym, ◌∙◌, ◌≢◌, ◌⊎◌, inl, inr, ⊎_elim, List, [], ◌∷◌, ◌++◌, map, append-nil, append_assoc, ℕ, ◌+◌, ◌<◌, ◌≤◌, arith, add-zero, add-one, lt-ltb, length, take, drop, set, length-set, drop_of_length-le, take-suc-set, length-take-le}
use mathlib.Core.List.{map-append}
use borrow.Author.Tests.{lt-leb}
use lib.ListN.{length-map}
use Rattle.words.specs.Fault as Fault
use Rattle.words.specs.Word.{kind, payload, word_at}
use Rattle.words.specs.Refusal.{◌at_place◌, accepted}
use Rattle.words.specs.Variables.{variables}
use Rattle.words.specs.Check.{Step}
use Rattle.words.proofs.Reading.{word-then}
use Rattle.models.specs.Model.{headed, constraints_from, constraints, source_words}
use Rattle.models.specs.Reading.{fault_head, fault_end, fault_due_in, after_head, declared, started, read_model}
use Rattle.models.specs.declared.Due.TheVariants.{Ended}
use Rattle.models.proofs.Sound.{is-head, at-constraint, at-end}
use Rattle.models.proofs.Constraints.{starts-one}
use Rattle.modelitems.specs.Onward.{onward, stopped, Placed, head_due, arguments_from, ArgumentsRead}
use Rattle.modelitems.proofs.Onward.{fault_at, here, go_on, stop-here, end-here, stop-at, head-fault, head-after}
use Rattle.modelitems.proofs.Steps.{gone, halted, present}
use Rattle.modelitems.proofs.Variable.{none-declared, none-posed}
use Rattle.modelreading.specs.Seen.{Read, VariablesSeen, Seen, Kept}

-- what reading the variables answers
pub record VariablesKept (ws types : List ℕ) (r : Read) : Type 0 where
  pub refusal : (r.number ≡ Fault.none → ⊥) → r.number at_place r.place ≡ read_model ws
  pub seen : r.number ≡ Fault.none → VariablesSeen head_due ws types r.variables r.sources

-- a fault of the variables is the model's
pub variables-refused : {ws types hs : List ℕ} {r : Read} → VariablesKept ws types r → (r.number ≡ 0 → ⊥) → Kept ws hs r
variables-refused k z = record { refusal = k.refusal z; seen = λ n. absurd (z n) }

-- ---- the constraints; `sources` is the place where they begin

pub record Posing (ws types hs : List ℕ) (v sources c at : ℕ) : Type 0 where
  pub few : v ≤ 256
  pub room : c ≤ 256
  pub full : length hs ≡ 256
  pub placed : Placed ws at
  pub rest : onward head_due (take v types) c at ws ≡ read_model ws
  pub declares : v + length (variables (drop at ws)) ≡ length (variables ws)
  pub front : sources + length (source_words (drop sources ws)) ≡ length (source_words ws)
  pub began : (sources ≡ at) ⊎ (3 < kind (word_at ws sources))
  pub posed : map (headed ws) (take c hs) ++ constraints_from at (drop at ws) ≡ constraints ws

pub posing : {ws types hs : List ℕ} {v at : ℕ} → VariablesSeen head_due ws types v at → length hs ≡ 256 → Posing ws types hs v at 0 at
posing o f = record { few = o.few; room = omega arith; full = f; placed = o.placed; rest = o.rest; declares = o.declares; front = o.front; began = inl refl; posed = o.same }

module _ {ws types hs : List ℕ} {v sources c at : ℕ} (p : Posing ws types hs v sources c at) {f : ℕ} (e : f ≡ fault_head c (word_at ws at)) where
  abbrev ts : List ℕ
  ts = take v types

  abbrev w : ℕ
  w = word_at ws at

  at_head : f ≡ fault_at ws ts head_due c at
  at_head = e ∙ sym (head-fault ws ts c at)

  pub head-halted : (f ≡ 0 → ⊥) → stopped ws f at ≡ read_model ws
  unfolding fault_end
  head-halted z = sym (stop-at ws ts head_due c at f refl at_head z) ∙ p.rest

  module _ (z : f ≡ 0) where
    pub head-here : at < length ws
    head-here = here ws ts head_due c at (sym z ∙ at_head)

    passed : onward (after_head w) (ts ++ declared w) (c + started w) (at + 1) ws ≡ read_model ws
    passed = rw (← head-after w) (sym (go_on ws ts head_due c at (sym z ∙ at_head))) ∙ p.rest

    -- a constraint
    module _ (n : kind w ≢ 7) where
      pub posing-one : (c < 256) × (kind w ≡ 4)
      posing-one = elim (is-head c w (sym e ∙ z)) [
        | at-constraint few k lo hi ↦ (few, k)
        | at-end k ↦ absurd (n k)
      ]

      due-arguments : onward (arguments_from (payload w) 0) ts (c + 1) (at + 1) ws ≡ read_model ws
      unfolding after_head declared started
      due-arguments = rw (posing-one.1, append-nil ts) at passed

      module _ {r : Step} (g : ArgumentsRead ws ts (payload w) (at + 1) r) where
        pub arguments-halted : (r.number ≡ 0 → ⊥) → stopped ws r.number r.at ≡ read_model ws
        arguments-halted y = sym (halted (g (c + 1)) y) ∙ due-arguments

        one_more : map (headed ws) (take (c + 1) (set hs c at)) ≡ map (headed ws) (take c hs) ++ (headed ws at ∷ [])
        one_more =
            let e : take (c + 1) (set hs c at) ≡ take c hs ++ (at ∷ []) = rw add-one (take-suc-set hs c at (omega (arith, p.full, posing-one.0))) in
            ap (map (headed ws)) e ∙ map-append (headed ws) (take c hs) (at ∷ [])

        posed-one : constraints_from at (drop at ws) ≡ headed ws at ∷ constraints_from r.at (drop r.at ws)
        unfolding word_at
        posed-one = starts-one ws at head-here posing-one.1 ∙ ap (λ cs. headed ws at ∷ cs) (g 0).skipped.same_constraints

        pub posing-on : r.number ≡ 0 → Posing ws types (set hs c at) v sources (c + 1) r.at
        posing-on y =
            let k = posing-one.1 in
            let s = g (c + 1) in
            record {
              few = p.few;
              room = omega (arith, posing-one.0);
              full = length-set hs c at ∙ p.full;
              placed = record { within = s.inside; few = p.placed.few };
              rest = sym (gone s y) ∙ due-arguments;
              declares = ap (λ (l : ℕ). v + l) (ap length (sym (none-declared ws at head-here (λ j. omega arith) (λ j. omega arith) (λ j. omega arith) ∙ s.skipped.same_variables))) ∙ p.declares;
              front = p.front;
              began = inr (⊎_elim (λ q. rw q (omega arith)) (λ q. q) p.began);
              posed = rw one_more (append_assoc (map (headed ws) (take c hs)) (headed ws at ∷ []) (constraints_from r.at (drop r.at ws)) ∙ rw (← posed-one) p.posed);
            }

    -- the end
    module _ (k : kind w ≡ 7) where
      ended : onward Ended ts c (at + 1) ws ≡ read_model ws
      unfolding after_head declared started
      ended = rw (k, append-nil ts, add-zero c) at passed

      pub after-end : at + 1 < length ws → stopped ws 11 (at + 1) ≡ read_model ws
      unfolding stopped fault_due_in
      after-end l = rw (lt-ltb (at + 1) (length ws) l) (sym (stop-here ws ts Ended c (at + 1) 11 l refl (λ (q : ◌≡◌ {A = ℕ} 11 0). omega arith)) ∙ ended)

      module _ (l : length ws ≤ at + 1) where
        pub no-fault : accepted ≡ read_model ws
        unfolding fault_end
        no-fault = sym (end-here ws ts Ended c (at + 1) l) ∙ ended

        late : 3 < kind (word_at ws sources)
        late = ⊎_elim (λ q. rw q (omega arith)) (λ q. q) p.began

        no_source : length (source_words (drop sources ws)) ≡ 0
        unfolding source_words word_at
        no_source = ap (λ vs. length (source_words vs)) (word-then ws sources (present ws sources (omega (arith, late)))) ∙ rw (lt-leb (kind (word_at ws sources)) 3 late)

        no-variable : length (variables (drop at ws)) ≡ 0
        unfolding variables
        no-variable = ap length (none-declared ws at head-here (λ j. omega arith) (λ j. omega arith) (λ j. omega arith)) ∙ rw (drop_of_length-le ws l)

        no-constraint : constraints_from at (drop at ws) ≡ []
        unfolding constraints_from
        no-constraint = none-posed ws at head-here (λ j. omega arith) ∙ rw (drop_of_length-le ws l)

        all-posed : map (headed ws) (take c hs) ≡ constraints ws
        all-posed = sym (append-nil (map (headed ws) (take c hs))) ∙ rw (no-constraint) at p.posed

        pub seen : Seen ws hs (record { number = 0; place = 0; variables = v; sources = sources; constraints = c })
        seen = record {
          accepts = sym no-fault;
          variables_counted = omega (arith, p.declares, no-variable);
          sources_counted = omega (arith, p.front, no_source);
          heads = record {
            room = p.room;
            counted = sym (ap length (sym all-posed) ∙ length-map (take c hs) (headed ws) ∙ length-take-le c hs (omega (arith, p.full, p.room)));
            places = all-posed;
          };
        }
