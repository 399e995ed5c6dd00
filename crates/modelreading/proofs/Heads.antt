-- For the callers: the constraints by the places of their heads, and the variables by their words alone.
use Rattle.std.proofs.Common.{◌≡◌, refl, ap, sym, ◌∙◌, Bool, true, false, List, [], ◌∷◌, ℕ, suc, ◌+◌, ◌<◌, ◌≤◌, arith, add-one, eqb, length, get_or, take, drop, length-append, drop-cons, get_or-take, length-take-le, take_at}
use Rattle.std.proofs.Math.Seq.{take-length}
use lib.ListN.{get_or-map}
use Rattle.integers.specs.Choice.{◌if◌else◌}
use Rattle.integers.specs.declared.Bounds.{Bounds}
use Rattle.integers.proofs.Tests.{All}
use Rattle.integers.proofs.Lists.{all-at, all_implies}
use Rattle.words.specs.Word.{kind, payload, word_at}
use Rattle.words.specs.Variables.{variables, starts_pair}
use Rattle.words.proofs.Sources.{Sources, none, integer, boolean}
use Rattle.models.specs.Model.{Constraint, headed, constraints_from, constraints, source_words}
use Rattle.models.proofs.Accepted.{Split, split, sources-are}
use Rattle.modelreading.specs.Seen.{Heads, Read, Seen}

-- every constraint's head is among the words
stands : (p : ℕ) (ws : List ℕ) → All (λ c. c.place < p + length ws) (constraints_from p ws)
unfolding constraints_from
stands p [] = tt
stands p (w ∷ ws) = go (eqb (kind w) 4) (all_implies _ _ (λ c l. omega arith) (constraints_from (p + 1) ws) (stands (p + 1) ws))
  where
    go : (b : Bool) → All (λ c. c.place < p + suc (length ws)) (constraints_from (p + 1) ws) →
        All (λ c. c.place < p + suc (length ws)) (record { place = p; code = payload w; arguments = ws } ∷ constraints_from (p + 1) ws if b else constraints_from (p + 1) ws)
    go true r = (omega arith, r)
    go false r = r

module _ {ws hs : List ℕ} {n : ℕ} (h : Heads ws hs n) (k : ℕ) (l : k < n) where
  at : get_or (constraints ws) k (headed ws 0) ≡ headed ws (get_or hs k 0)
  at = ap (λ (cs : List Constraint). get_or cs k (headed ws 0)) (sym h.places) ∙ get_or-map (headed ws) (take n hs) k 0 ∙ ap (headed ws) (get_or-take n hs k 0 l)

  -- from the k-th constraint on
  pub head_at : drop k (constraints ws) ≡ headed ws (get_or hs k 0) ∷ drop (k + 1) (constraints ws)
  head_at = drop-cons (constraints ws) k (headed ws 0) (omega (arith, h.counted)) ∙ rw (add-one k) (ap (λ c. c ∷ drop (suc k) (constraints ws)) at)

  pub head-inside : get_or hs k 0 < length ws
  unfolding constraints
  head-inside = ap_place (all-at (λ c. c.place < 0 + length ws) (headed ws 0) (constraints ws) k (omega (arith, h.counted)) (stands 0 ws))
    where
      ap_place : (get_or (constraints ws) k (headed ws 0)).place < 0 + length ws → get_or hs k 0 < length ws
      ap_place q = omega (arith, q, ap (λ (c : Constraint). c.place) at)

-- the front of a list alone, which a function is lent
pub front-heads : {ws : List ℕ} (hs : List ℕ) {n : ℕ} → Heads ws hs n → n ≤ length hs → Heads ws (take n hs) (length (take n hs))
front-heads hs {n} h l =
    let e = length-take-le n hs l in
    record { room = rw e h.room; counted = rw e h.counted; places = rw (take-length (take n hs)) h.places }

-- for the loops over the heads, which name it once: a word is read at each head
pub ruleset heads_inside = (head-inside)

-- the words of the variables say what the variables are
of-sources : {src : List ℕ} {Bs : List Bounds} → Sources src Bs → variables src ≡ Bs
unfolding variables starts_pair word_at
of-sources none = refl
of-sources (integer {l} {u} k m o r) = rw (k, m, of-sources r)
of-sources (boolean {w} k z r) = rw (k, of-sources r)

module _ {ws hs : List ℕ} {r : Read} (s : Seen ws hs r) where
  parts : Split ws
  parts = split ws s.accepts

  -- the words of the variables are the front
  pub front-inside : r.sources ≤ length ws
  front-inside = omega (arith, s.sources_counted, ap length (sources-are parts), ap length parts.whole, length-append parts.src parts.rest)

  pub front-words : take r.sources ws ≡ source_words ws
  front-words =
      ap (take r.sources) parts.whole
      ∙ take_at parts.src parts.rest r.sources (sym (s.sources_counted ∙ ap length (sources-are parts)))
      ∙ sym (sources-are parts)

  pub front-variables : variables (take r.sources ws) ≡ variables ws
  front-variables = ap variables (front-words ∙ sources-are parts) ∙ of-sources parts.sources
