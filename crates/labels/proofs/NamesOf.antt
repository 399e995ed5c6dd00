-- The names so far, and the next one where it follows a colon. For `names_of`.
use Rattle.std.proofs.Common.{◌≡◌, sym, ap, ◌∙◌, Bool, true, false, List, [], ◌∷◌, ◌++◌, append-nil, append_assoc, ℕ, arith, eqb, length, lt-ltb}
use Rattle.std.proofs.lemmas.List.{map-append}
use Rattle.integers.specs.Choice.{◌if◌else◌}
use Rattle.tokens.specs.Sorts.{sort_number}
use Rattle.tokens.specs.Unread.{bytes_between, unread, spanned, Met}
use Rattle.tokens.specs.declared.Span.{Span}
use Rattle.names.specs.Name.{declared_from}
use Rattle.labels.specs.Named.{spelled}

one_more : (bs : List ℕ) (xs : List Span) (s : Span) (ys : List (List ℕ)) (c : Bool) →
    spelled bs (xs ++ (s ∷ [] if c else [])) ++ ys ≡ spelled bs xs ++ (bytes_between bs s.place s.stop ∷ ys if c else ys)
one_more bs xs s ys true = ap (λ (l : List (List ℕ)). l ++ ys) (map-append _ xs (s ∷ [])) ∙ append_assoc (spelled bs xs) (bytes_between bs s.place s.stop ∷ []) ys
one_more bs xs s ys false = ap (λ (l : List Span). spelled bs l ++ ys) (append-nil xs)

pub more : (c : Bool) (bs : List ℕ) (xs new : List Span) (i : ℕ) (s : Span) (all : List (List ℕ)) → Met bs i s → new ≡ xs ++ (s ∷ [] if c else []) → spelled bs xs ++ declared_from c (length bs) (unread bs i) ≡ all →
    spelled bs new ++ declared_from (eqb (sort_number s.sort) 58) (length bs) (unread bs s.stop) ≡ all
unfolding declared_from spanned
more c bs xs new i s all m e h =
    rw e (one_more bs xs s (declared_from (eqb (sort_number s.sort) 58) (length bs) (unread bs s.stop)) c ∙ (rw (m.found, lt-ltb s.place (length bs) (omega (arith, m.longer, m.inside))) at h))

pub ends : (c : Bool) (bs : List ℕ) (xs : List Span) (i : ℕ) (all : List (List ℕ)) → unread bs i ≡ [] → spelled bs xs ++ declared_from c (length bs) (unread bs i) ≡ all → spelled bs xs ≡ all
unfolding declared_from
ends c bs xs i all q h = sym (append-nil (spelled bs xs)) ∙ (rw q at h)
