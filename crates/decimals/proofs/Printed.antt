-- A text printed after another; none printed. And a text printed part after part: what is left of it.
use Rattle.std.proofs.Common.{◌≡◌, refl, ◌∙◌, List, [], ◌++◌, ℕ}
use Rattle.words.proofs.LaidThen.{laid_then, laid_none}
use Rattle.words.proofs.Rest.{Rest, all_left, lay-part, lay-last}
use Rattle.words.proofs.Rest as rest
use Rattle.decimals.specs.Printed.{Prints}
use Rattle.decimals.specs.declared.Page.{Page}

pub then_prints : {p q r : Page} {xs ys : List ℕ} → Prints p xs q → Prints q ys r → Prints p (xs ++ ys) r
then_prints v w = record { laid = laid_then v.laid w.laid; same_bytes = w.same_bytes ∙ v.same_bytes }

pub prints_none : (p : Page) → Prints p [] p
prints_none p = record { laid = laid_none; same_bytes = refl }

pub record Printing (before : Page) (whole : List ℕ) (now : Page) (left : List ℕ) : Type 0 where
  pub rest : Rest before.bytes.now before.at whole now.bytes.now now.at left
  pub same_bytes : now.bytes.ghost_name ≡ before.bytes.ghost_name

pub none_printed : (p : Page) (whole : List ℕ) → Printing p whole p whole
none_printed p whole = record { rest = all_left _ _ whole; same_bytes = refl }

-- a part is printed; the last one; no part is left; what is left, written otherwise
module _ {before : Page} {whole : List ℕ} {now : Page} where
  pub print-part : {xs ys : List ℕ} {later : Page} → Printing before whole now (xs ++ ys) → Prints now xs later → Printing before whole later ys
  print-part r l = record { rest = lay-part r.rest l.laid; same_bytes = l.same_bytes ∙ r.same_bytes }

  pub print-last : {xs : List ℕ} {later : Page} → Printing before whole now xs → Prints now xs later → Prints before whole later
  print-last r l = record { laid = lay-last r.rest l.laid; same_bytes = l.same_bytes ∙ r.same_bytes }

  pub none_left : Printing before whole now [] → Prints before whole now
  none_left r = record { laid = rest.none_left r.rest; same_bytes = r.same_bytes }

  pub same_left : {xs ys : List ℕ} → xs ≡ ys → Printing before whole now xs → Printing before whole now ys
  same_left e r = record { rest = rest.same_rest e r.rest; same_bytes = r.same_bytes }
