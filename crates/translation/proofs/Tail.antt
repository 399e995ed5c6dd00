-- A tail that was lent, to the end of a list, and came back with words laid over its front.
use Rattle.std.proofs.Common.{◌≡◌, sym, ap, ◌∙◌, false, List, [], ◌∷◌, ◌++◌, append-nil, ℕ, suc, ◌+◌, ◌-◌, ◌≤◌, arith, add-zero, length, take, drop, set, take-append-drop, length-drop, take_all}
use lib.Seq.{take-set-le, drop-set-add, drop-length}
use borrow.Rule.Slice.PartMut.{put_mid, mid_of, Post-is}
use borrow.Author.Tests.{not-false}
use Rattle.words.specs.Overlay.{overlay}
use Rattle.rules.specs.Block.{Block, block_words}
use Rattle.rules.specs.InRange.{outside}
use Rattle.laying.specs.Part.{block_parts}
use Rattle.laying.specs.Appends.{AppendsFitting, nothing}
use Rattle.laying.specs.declared.Laid.{Laid}
use Rattle.laying.proofs.Blocks.{words_in-block_parts, block-outside}

from : (a j : ℕ) (o ws : List ℕ) → take a o ++ overlay (drop a o) j ws ≡ overlay o (a + j) ws
unfolding overlay
from a j o [] = take-append-drop a o
from a j o (w ∷ ws) =
    let e : a + suc j ≡ suc (a + j) = omega arith in
    let h : a ≤ a + j = omega arith in
    sym (rw (take-set-le a o (a + j) w h, drop-set-add a o j w)) ∙ from a (suc j) (set o (a + j) w) ws ∙ ap (λ (n : ℕ). overlay (set o (a + j) w) n ws) e

-- what a call with `&mut out[a..]` leaves that lays ws over its list
tail-back : (a : ℕ) (o ws : List ℕ) → a ≤ length o → put_mid a (length o - a) o (overlay (mid_of a (length o - a) o) 0 ws) ≡ overlay o a ws
tail-back a o ws h =
    rw (Post-is a (length o) o, drop-length, append-nil, take_all (length o - a) (drop a o) (simp length-drop (omega arith))) (from a 0 o ws ∙ rw add-zero)

-- where it is a block that is laid from nothing, its numbers in the range
pub block_back : (first : ℕ) (B : Block) (at : ℕ) (out : List ℕ) {b : Laid} {out' : List ℕ} → at ≤ length out → outside B ≡ false →
    AppendsFitting nothing b (mid_of at (length out - at) out) out' (block_parts first B) → put_mid at (length out - at) out out' ≡ overlay out at (block_words first B)
block_back first B at out h f w =
    ap (put_mid at (length out - at) out) (w.over (not-false _ (block-outside first B ∙ f)) ∙ ap (overlay _ 0) (words_in-block_parts first B)) ∙ tail-back at out (block_words first B) h
