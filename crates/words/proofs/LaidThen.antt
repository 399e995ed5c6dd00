-- A text laid after another; no text laid.
use Rattle.std.proofs.Common.{List, [], ◌++◌, ℕ}
use Rattle.words.specs.LaidAt.{LaidAt}
use Rattle.words.proofs.Rest.{all_left, lay-part, lay-last, none_left}

module _ {A : Type 0} where
  pub laid_then : {a b c : ℕ} {o p q xs ys : List A} → LaidAt o a xs p b → LaidAt p b ys q c → LaidAt o a (xs ++ ys) q c
  laid_then {a} {b} {c} {o} {p} {q} {xs} {ys} v w = lay-last (lay-part (all_left o a (xs ++ ys)) v) w

  pub laid_none : {a : ℕ} {o : List A} → LaidAt o a [] o a
  laid_none {a} {o} = none_left (all_left o a [])
