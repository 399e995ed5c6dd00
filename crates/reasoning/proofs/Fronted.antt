-- A block that was laid and ended is the front of its list; judged by itself, its bounds and its rows.
use Rattle.std.proofs.Common.{◌≡◌, ap, ap₂, sym, ◌∙◌, true, false, List, [], ◌∷◌, ◌++◌, ℕ, ◌+◌, ◌-◌, ◌*◌, ◌≤◌, ◌<◌, arith, add-zero, ℤ, pos, length, length-append, length-drop, take, drop, length-take-le, get_or-take, get_or-drop}
use borrow.Author.Tests.{not-false}
use Rattle.integers.specs.Terms.{value}
use Rattle.integers.specs.declared.Bounds.{Bounds}
use Rattle.words.specs.Word.{word}
use Rattle.words.specs.Kind as Kind
use Rattle.words.specs.Overlay.{overlay}
use Rattle.words.specs.Refusal.{accepted}
use Rattle.words.specs.Variables.{variables}
use Rattle.words.specs.Answer.{Answer, holds}
use Rattle.words.specs.Judge.{first_false, first_out_of_bounds}
use Rattle.words.specs.Faults.{said_of}
use Rattle.words.specs.declared.answer.Verdict.{Verdict}
use Rattle.words.proofs.Overlay.{overlay-append, front-over}
use Rattle.rowsystems.specs.Row.{Row, satisfied}
use Rattle.rowsystems.specs.RowSystem.{rows}
use Rattle.rowsystems.specs.declared.Due.TheVariants.{Item}
use Rattle.rowreading.specs.Onward.{onward, Placed}
use Rattle.rules.specs.Block.{Block, block_words}
use Rattle.laying.specs.Part.{block_parts}
use Rattle.laying.specs.Appends.{AppendsFitting, GrowsBy, nothing}
use Rattle.laying.specs.declared.Laid.{Laid}
use Rattle.laying.proofs.Blocks.{words_in-block_parts, block-outside}
use Rattle.blocks.proofs.OneBlock.{told}
use Rattle.reasoning.specs.Walks.{block_and_end, ReadsBack, Front, BlockJudged, AtMost, shift}
use Rattle.reasoning.proofs.Counted.{outside-part, outside_below}

pub fronted : {first : ℕ} {B : Block} {r : Laid} {o o₁ o₂ : List ℕ} → ReadsBack first B → 2801 ≤ length o → AppendsFitting nothing r o o₁ (block_parts first B) → GrowsBy 1000000 nothing r →
    o₂ ≡ overlay o₁ r.words (word Kind.rows_end 0 ∷ []) → Front first B r o₂
fronted {first} {B} {r} {o} {o₁} {o₂} d h w n e =
    let t = told w in
    let W = block_words first B in
    let E : List ℕ = word Kind.rows_end 0 ∷ [] in
    let size = length-append W E in
    let f = d.few in
    let z : r.words ≡ 0 + length W = omega (arith, t.words) in
    let k : r.words + 1 ≡ length (W ++ E) = omega (arith, t.words, size) in
    let fits : length (W ++ E) ≤ length o = omega (arith, size, f, h) in
    let over : o₂ ≡ overlay o 0 (W ++ E) = e ∙ ap₂ (λ (l : List ℕ) (m : ℕ). overlay l m E) (w.over (not-false _ (block-outside first B ∙ d.fits)) ∙ ap (overlay o 0) (words_in-block_parts first B)) z ∙ overlay-append o 0 W E in
    record {
      words = t.words;
      auxiliaries = t.auxiliaries;
      rows = t.rows;
      small = omega (arith, n);
      front = ap₂ (λ (m : ℕ) (l : List ℕ). take m l) k over ∙ front-over o (W ++ E) fits;
    }

-- ---- judged by itself

module _ {first : ℕ} {B : Block} {l : Laid} {o : List ℕ} (d : ReadsBack first B) (f : Front first B l o) where
  pub prefix_length : l.words + 1 ≡ length (take (l.words + 1) o)
  prefix_length =
      let e : length (take (l.words + 1) o) ≡ length (block_and_end first B) = ap length f.front in
      omega (arith, e, f.words, length-append (block_words first B) (word Kind.rows_end 0 ∷ []))

  module _ (vs : List ℤ) (h : first + length B.auxiliaries ≤ length vs) where
    abbrev part : List ℤ
    part = take (first + l.auxiliaries - first) (drop first vs)

    count : first + l.auxiliaries - first ≡ length B.auxiliaries
    count = omega (arith, f.auxiliaries)

    the_bounds : variables (take (l.words + 1) o) ≡ B.auxiliaries
    the_bounds = ap variables f.front ∙ d.the_bounds

    pub part_length : length (take (first + l.auxiliaries - first) (drop first vs)) ≡ length (variables (take (l.words + 1) o))
    part_length =
        let r : first + l.auxiliaries - first ≤ length (drop first vs) = omega (arith, count, length-drop first vs, h) in
        length-take-le (first + l.auxiliaries - first) (drop first vs) r ∙ count ∙ sym (ap length the_bounds)

    same-value : (v : ℕ) → v < 0 + length B.auxiliaries → value vs (first + v) ≡ value part v
    unfolding value
    same-value v k = sym (get_or-take (first + l.auxiliaries - first) (drop first vs) v (pos 0) (omega (arith, count, k)) ∙ get_or-drop first vs v (pos 0))

    module _ {a : Answer} (e : a ≡ first_out_of_bounds (value (take (first + l.auxiliaries - first) (drop first vs))) 0 (variables (take (l.words + 1) o)) holds) where
      here : a ≡ first_out_of_bounds (value part) 0 B.auxiliaries holds
      here = e ∙ ap (λ (Bs : List Bounds). first_out_of_bounds (value part) 0 Bs holds) the_bounds

      pub outside-few : AtMost 1000000 a
      outside-few = rw here (outside_below (value part) 1000000 0 B.auxiliaries (omega (arith, f.auxiliaries, f.small)))

      pub outside-said : {k : ℕ} {w : Verdict} → said_of w ≡ shift first a → BlockJudged true vs first k B (record { said = w; auxiliaries = l.auxiliaries; rows = l.rows })
      outside-said g = record {
        says = g ∙ ap (shift first) here ∙ sym (outside-part (value vs) (value part) first 0 B.auxiliaries same-value) ∙ ap (λ (k : ℕ). first_out_of_bounds (value vs) k B.auxiliaries holds) (add-zero first);
        auxiliaries = f.auxiliaries;
        rows = f.rows;
        few = omega (arith, f.small);
      }

  -- from the place after the bounds on
  pub after-bounds : Placed (take (l.words + 1) o) (2 * l.auxiliaries)
  after-bounds = record { within = omega (arith, prefix_length, f.words, f.auxiliaries, d.bounds_first); few = omega (arith, prefix_length, f.words, d.few) }

  pub rows-accepted : onward Item (first + l.auxiliaries) (2 * l.auxiliaries) (take (l.words + 1) o) ≡ accepted
  rows-accepted = rw (f.front, f.auxiliaries) d.accepts

  pub no-variables : variables (drop (2 * l.auxiliaries) (take (l.words + 1) o)) ≡ []
  no-variables = rw (f.front, f.auxiliaries) d.no_more

  pub failing-said : (vs : List ℤ) (k : ℕ) {w : Verdict} → said_of w ≡ first_false (satisfied (value vs)) k (rows (drop (2 * l.auxiliaries) (take (l.words + 1) o))) →
      BlockJudged false vs first k B (record { said = w; auxiliaries = l.auxiliaries; rows = l.rows })
  failing-said vs k e = record {
    says = e ∙ ap (λ (xs : List (Row ℕ)). first_false (satisfied (value vs)) k xs) (rw (f.front, f.auxiliaries) d.the_rows);
    auxiliaries = f.auxiliaries;
    rows = f.rows;
    few = omega (arith, f.small);
  }
