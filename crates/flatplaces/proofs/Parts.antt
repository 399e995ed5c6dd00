-- Whether a part stands in a text, from a place on: for the search for a library's folder.
use Rattle.std.proofs.Common.{◌≡◌, ℕ, ◌+◌, ◌-◌, ◌<◌, List, length, take, drop, false, ◌||◌, eqb, ap, sym, ◌∙◌, arith, length-drop}
use Rattle.std.proofs.lemmas.List.{at_drop_more, take_all}
use Rattle.std.specs.List.{starts_with}
use Rattle.flatplaces.specs.Path.{contains_part}

pub contains_more : (text part : List ℕ) (at : ℕ) → at < length text → starts_with eqb (take (length text - at) (drop at text)) part ≡ false → contains_part (drop at text) part ≡ contains_part (drop (at + 1) text) part
contains_more text part at lt absent =
    at_drop_more (λ xs. contains_part xs part) text at 0 lt
    ∙ ap (λ b. b || contains_part (drop (at + 1) text) part) (sym (at_drop_more (λ xs. starts_with eqb xs part) text at 0 lt) ∙ sym (ap (λ xs. starts_with eqb xs part) whole) ∙ absent)
  where
    whole : take (length text - at) (drop at text) ≡ drop at text
    whole = take_all (length text - at) (drop at text) (omega (arith, length-drop at text))
