-- Reading a text token by token without a fault: what is due, the names declared so far, and the words that the rest of the text gives.
use Rattle.std.proofs.Common.{◌≡◌, sym, ap, ◌∙◌, Bool, true, false, List, [], ◌∷◌, ◌++◌, append-nil, append_assoc, ℕ, ◌<◌, ◌≤◌, arith, eqb, le-ltb, lt-ltb, ne_eqb}
use Rattle.integers.specs.Choice.{◌if◌else◌}
use Rattle.words.specs.Refusal.{accepted}
use Rattle.tokens.specs.Token.{Token, tokens_from}
use Rattle.names.specs.Name.{declared_from}
use Rattle.grammar.specs.Grammar as Grammar
use Rattle.grammar.specs.Grammar.{TokenStep, Due}
use Rattle.texts.specs.Text.{fault_from, words_from}

-- the step of a token without a fault
abbrev pub passes : ℕ → Due → TokenStep
passes w next = record { fault = 0; word = w; next = next }

module _ (all : List Token) (end : ℕ) where
  -- the names ns are declared before place p, where the tokens ts are left; b says whether a colon stands before them
  abbrev pub Past : ℕ → List (List ℕ) → Bool → List Token → Type 0
  Past p ns b ts = (q : ℕ) → p ≤ q → declared_from false q all ≡ ns ++ declared_from b q ts

  -- where d is due, the tokens have no fault and give these words
  abbrev pub Gives : Due → List Token → List ℕ → Type 0
  Gives d ts us = (fault_from all end d ts ≡ accepted) × (words_from all d ts ≡ us)

  pub record Reads (d : Due) (p : ℕ) (bs : List ℕ) (ns : List (List ℕ)) (b : Bool) (us : List ℕ) : Type 0 where
    pub gives : Past p ns b (tokens_from 0 p bs) → Gives d (tokens_from 0 p bs) us

  -- a token without a fault, where these names are declared before it, its word or 0, and what is due after it
  abbrev pub Meets : List (List ℕ) → Due → Token → List Token → ℕ → Due → Type 0
  Meets ns d t ts w next = declared_from false t.place all ≡ ns → Grammar.step all d t ts ≡ passes w next

  step_gives : (d next : Due) (t : Token) (ts : List Token) (us : List ℕ) (w : ℕ) → Grammar.step all d t ts ≡ passes w next → Gives next ts us → Gives d (t ∷ ts) (us if eqb w 0 else w ∷ us)
  unfolding fault_from words_from
  step_gives d next t ts us w m r = rw m (r.0, ap (λ (rest : List ℕ). rest if eqb w 0 else w ∷ rest) r.1)

  own : (p : ℕ) (ns : List (List ℕ)) (b : Bool) (t : Token) (ts : List Token) → Past p ns b (t ∷ ts) → p ≤ t.place → declared_from false t.place all ≡ ns
  unfolding declared_from
  own p ns b t ts h l = h t.place l ∙ rw (le-ltb t.place t.place (omega arith)) (append-nil ns)

  past_next : (p n : ℕ) (ns : List (List ℕ)) (b : Bool) (t : Token) (ts : List Token) → Past p ns b (t ∷ ts) → p ≤ t.place → t.place < n →
      Past n (ns ++ (t.spelling ∷ [] if b else [])) (eqb t.sort 58) ts
  unfolding declared_from
  past_next p n ns true t ts h l m q k = h q (omega arith) ∙ rw (lt-ltb t.place q (omega arith)) (sym (append_assoc ns (t.spelling ∷ []) _))
  past_next p n ns false t ts h l m q k = h q (omega arith) ∙ rw (lt-ltb t.place q (omega arith)) (sym (append_assoc ns [] _))

  -- the next token of the bytes bs is t, and after it the bytes are cs
  pub step : {d next : Due} {p n : ℕ} {bs cs : List ℕ} {ns : List (List ℕ)} {us : List ℕ} (b : Bool) (t : Token) (w : ℕ) →
      tokens_from 0 p bs ≡ t ∷ tokens_from 0 n cs → t.place ≡ p → p < n → Meets ns d t (tokens_from 0 n cs) w next →
      Reads next n cs (ns ++ (t.spelling ∷ [] if b else [])) (eqb t.sort 58) us → Reads d p bs ns b (us if eqb w 0 else w ∷ us)
  step {d} {next} {p} {n} {bs} {cs} {ns} {us} b t w e q l m r = record { gives = λ h. rw e (go (rw e at h)) }
    where
      go : Past p ns b (t ∷ tokens_from 0 n cs) → Gives d (t ∷ tokens_from 0 n cs) (us if eqb w 0 else w ∷ us)
      go h =
          let o = own p ns b t (tokens_from 0 n cs) h (omega arith) in
          let g = r.gives (past_next p n ns b t (tokens_from 0 n cs) h (omega arith) (omega arith)) in
          step_gives d next t (tokens_from 0 n cs) us w (m o) g

  -- and it declares no name
  pub plain_step : {d next : Due} {p n : ℕ} {bs cs : List ℕ} {ns : List (List ℕ)} {us : List ℕ} (t : Token) (w : ℕ) →
      tokens_from 0 p bs ≡ t ∷ tokens_from 0 n cs → t.place ≡ p → p < n → Meets ns d t (tokens_from 0 n cs) w next →
      Reads next n cs ns (eqb t.sort 58) us → Reads d p bs ns false (us if eqb w 0 else w ∷ us)
  plain_step {ns = ns} t w e q l m r = step false t w e q l m (rw (append-nil ns) r)

  -- and it writes a word
  pub word-step : {d next : Due} {p n : ℕ} {bs cs : List ℕ} {ns : List (List ℕ)} {us : List ℕ} (t : Token) (w : ℕ) → 0 < w →
      tokens_from 0 p bs ≡ t ∷ tokens_from 0 n cs → t.place ≡ p → p < n → Meets ns d t (tokens_from 0 n cs) w next →
      Reads next n cs ns (eqb t.sort 58) us → Reads d p bs ns false (w ∷ us)
  word-step {d} {next} {p} {n} {bs} {cs} {ns} {us} t w o e q l m r =
      let s : Reads d p bs ns false (us if eqb w 0 else w ∷ us) = plain_step t w e q l m r in
      rw (ne_eqb w 0 (λ z. omega arith)) at s
