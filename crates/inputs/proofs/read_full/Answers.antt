-- One more read puts what it consumed after what stands at the front.
use Rattle.std.proofs.Common.{◌≡◌, ℕ, ◌+◌, ◌-◌, ◌≤◌, List, ◌++◌, rules, length, take, sym, ap, ◌∙◌, subst, length-take-le}
use Rattle.std.proofs.Math.Seq.{take-append-add}
use Rattle.std.proofs.lemmas.List.{take-append-le}
use Rattle.std.proofs.KnownBytes.{Consumes-trans}
use Rattle.std.specs.Io.KnownBytes.{Consumes}
use borrow.Rule.Slice.PartMut.{put_mid, post_of}
use Rattle.inputs.proofs.read_full.Goals as goal

take-put_mid : (a k n : ℕ) (xs ys : List ℕ) → a ≤ length xs → n ≤ length ys → take (a + n) (put_mid a k xs ys) ≡ take a xs ++ take n ys
take-put_mid a k n xs ys within fits =
    let rest = ys ++ post_of a k xs in
    let here : length (take a xs) ≡ a = length-take-le a xs within in
    let split : take (length (take a xs) + n) (take a xs ++ rest) ≡ take a xs ++ take n rest = take-append-add (take a xs) rest n in
    ap (λ (m : ℕ). take (m + n) (take a xs ++ rest)) (sym here) ∙ split ∙ ap (λ (l : List ℕ). take a xs ++ l) (take-append-le n ys (post_of a k xs) fits)

pub loop-done-preserved : goal.loop-done-preserved
loop-done-preserved g c =
    let room = length c.loop-done.out - c.loop-done.done in
    let front = take-put_mid c.loop-done.done room c.in_ok-n.n c.loop-done.out c.read.new.buf c.loop-done.invariant.1 c.in_ok-n.ensures.bound.0 in
    (search rules, search rules, subst (Consumes _ _) (sym front) (Consumes-trans _ _ _ _ _ c.loop-done.invariant.2 c.in_ok-n.ensures.bytes.0))
