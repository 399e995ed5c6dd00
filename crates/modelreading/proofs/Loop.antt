-- The two loops of the reader: reading the rest from here gives what reading the whole gives, and what was seen so far is kept. One law for each way a turn ends.
use Rattle.std.proofs.Common.{◌≡◌, refl, ap, sym, ◌∙◌, ◌≢◌, ◌⊎◌, inl, inr, ⊎_elim, List, [], ◌∷◌, ◌++◌, map, append-nil, append_assoc, ℕ, ◌+◌, ◌<◌, ◌≤◌, arith, add-zero, add-one, eq-eqb, ne_eqb, lt-ltb, le-ltb, length, get_or, take, drop, set, length-set, drop_of_length-le, take-suc-set, length-take-le, Result, Ok, Err}
use Rattle.std.specs.Result.{MatchResult}
use Rattle.std.proofs.lemmas.List.{take-map}
use Rattle.std.proofs.Math.Seq.{take-length}
use mathlib.Core.List.{map-append}
use borrow.Author.Tests.{lt-leb}
use lib.ListN.{length-map}
use Rattle.words.specs.Word.{kind, payload, word_at}
use Rattle.words.specs.Refusal.{◌at_place◌, accepted}
use Rattle.words.specs.Variables.{variables}
use Rattle.words.specs.declared.fault.Refusal as error
use Rattle.words.specs.Faults.{fault_number}
use Rattle.words.specs.Check.{Step}
use Rattle.words.proofs.Faulty.{fault-number}
use Rattle.words.proofs.Reading.{word-then}
use Rattle.models.specs.Model.{headed, constraints_from, constraints, source_words}
use Rattle.models.specs.Shapes.{shape_number}
use Rattle.models.specs.declared.shape.Shape.{Shape}
use Rattle.models.specs.declared.shape.Shape.TheVariants as s
use Rattle.models.specs.Reading.{fault_head, fault_end, fault_due_in, after_head, declared, started, read_model, read_model_in}
use Rattle.models.specs.declared.Due.TheVariants.{Start, Ended}
use Rattle.models.proofs.Sound.{is-head, at-constraint, at-end}
use Rattle.models.proofs.Constraints.{starts-one}
use Rattle.modelitems.specs.Onward.{onward, stopped, Placed, head_due, arguments_from, ArgumentsRead}
use Rattle.modelitems.specs.Variable.{Declares}
use Rattle.modelitems.proofs.Onward.{fault_at, here, go_on, stop-here, end-here, stop-at, start-heads, head-fault, head-after}
use Rattle.modelitems.proofs.Steps.{gone, halted, present}
use Rattle.modelitems.proofs.Variable.{none-declared, none-posed}
use Rattle.modelreading.specs.Seen.{model_read, read_of, Stops, VariablesSeen, Seen, Kept}
use Rattle.modelreading.specs.declared.Model.{Model}

-- ---- what is answered

pub kept : {ws hs : List ℕ} (r : Result Model error.Refusal) → MatchResult r (λ m. Seen ws hs (model_read m)) (λ e. fault_number e.fault at_place e.place ≡ read_model ws) → Kept ws hs (read_of r)
kept (Ok m) s = record { refusal = sym s.accepts; seen = λ n. s }
kept (Err e) q = record { refusal = q; seen = λ n. absurd (fault-number e.fault n) }

-- a fault of the variables is the model's
pub variables-refused : {ws hs : List ℕ} (found r : error.Refusal) → Stops ws found → fault_number r.fault at_place r.place ≡ stopped ws (fault_number found.fault) found.place → Kept ws hs (read_of (Err r))
variables-refused found r s e = kept (Err r) (e ∙ s)

pub too_long : (ws : List ℕ) → 8192 < length ws → 1 at_place 0 ≡ read_model ws
unfolding read_model_in
too_long ws h = rw (lt-ltb 8192 (length ws) h)

all_read : (ws : List ℕ) → length ws ≤ 8192 → onward Start [] 0 0 ws ≡ read_model ws
unfolding read_model_in onward
all_read ws h = rw (le-ltb 8192 (length ws) h)

-- ---- the variables

-- the variables so far, where another may stand
abbrev pub Opening : List ℕ → List ℕ → ℕ → ℕ → Type 0
Opening ws types v at = (length types ≡ 256) × VariablesSeen Start ws types v at

pub opening : {ws types : List ℕ} → length ws ≤ 8192 → length types ≡ 256 → Opening ws types 0 0
unfolding constraints
opening {ws} {types} l f = (f, record { few = omega arith; placed = record { within = omega arith; few = l }; rest = all_read ws l; declares = omega arith; front = omega arith; same = refl })

module _ {ws types : List ℕ} {v at : ℕ} (f : length types ≡ 256) (o : VariablesSeen Start ws types v at) {d : ℕ} {r : Step} (g : Declares ws v at d r) where
  counted : length (take v types) ≡ v
  counted = length-take-le v types (omega (arith, o.few, f))

  pub opening-halted : (r.number ≡ 0 → ⊥) → stopped ws r.number r.at ≡ read_model ws
  opening-halted z = sym (g.reads (take v types) counted ∙ rw (ne_eqb r.number 0 z)) ∙ o.rest

  pub opened : r.number ≡ 0 → Opening ws (set types v d) (v + 1) r.at
  opened z =
      let p = g.passed z in
      let e : take (v + 1) (set types v d) ≡ take v types ++ (d ∷ []) = rw add-one (take-suc-set types v d (omega (arith, f, g.room z))) in (
        length-set types v d ∙ f,
        record {
          few = omega (arith, g.room z);
          placed = record { within = g.inside z; few = o.placed.few };
          rest =
              ap (λ (ts : List ℕ). onward Start ts 0 r.at ws) e
              ∙ sym (g.reads (take v types) counted ∙ rw (eq-eqb r.number 0 z))
              ∙ o.rest;
          declares = omega (arith, o.declares, p.one_variable);
          front = sym p.more_sources ∙ o.front;
          same = sym p.same_constraints ∙ o.same;
        },
      )

undeclared : (w k : ℕ) → 0 ≡ get_or (declared w) 0 0 → kind w ≡ k → (k ≡ 1) ⊎ (k ≡ 3) → ⊥
unfolding declared
undeclared w k e q (inl h) = let y : ◌≡◌ {A = ℕ} 0 1 = rw (q, h) at e in omega arith
undeclared w k e q (inr h) = let y : ◌≡◌ {A = ℕ} 0 2 = rw (q, h) at e in omega arith

-- a word that starts no variable ends them
pub all-opened : {ws types : List ℕ} {v at : ℕ} → VariablesSeen Start ws types v at → 0 ≡ get_or (declared (word_at ws at)) 0 0 → VariablesSeen head_due ws types v at
all-opened {ws} {types} {v} {at} o e = record {
  few = o.few;
  placed = o.placed;
  rest = sym (start-heads ws (take v types) 0 at (λ q. undeclared (word_at ws at) 1 e q (inl refl)) (λ q. undeclared (word_at ws at) 3 e q (inr refl))) ∙ o.rest;
  declares = o.declares;
  front = o.front;
  same = o.same;
}

-- their front alone, for which the constraints are read
pub front-seen : {ws : List ℕ} (types : List Shape) {v at : ℕ} → length types ≡ 256 → VariablesSeen head_due ws (map shape_number types) v at → VariablesSeen head_due ws (map shape_number (take v types)) (length (take v types)) at
front-seen {ws} types {v} {at} f o =
    let l : length (take v types) ≡ v = length-take-le v types (omega (arith, o.few, f)) in
    let e : take (length (take v types)) (map shape_number (take v types)) ≡ take v (map shape_number types) =
    take-map shape_number (length (take v types)) (take v types) ∙ ap (map shape_number) (take-length (take v types)) ∙ sym (take-map shape_number v types)
    in record {
      few = rw l o.few;
      placed = o.placed;
      rest = rw e o.rest;
      declares = rw l o.declares;
      front = o.front;
      same = o.same;
    }

-- no type of a variable has the number 0
pub typed : (s : Shape) → shape_number s ≡ 0 → ⊥
typed s.Integer z = omega (arith, z)
typed s.Boolean z = omega (arith, z)
typed s.Number z = omega (arith, z)
typed s.Exponent z = omega (arith, z)
typed s.Numbers z = omega (arith, z)
typed s.Integers z = omega (arith, z)
typed s.Booleans z = omega (arith, z)
typed s.Parallel z = omega (arith, z)

-- ---- the constraints; `sources` is the place where they begin

pub record Posing (ws ts hs : List ℕ) (sources c at : ℕ) : Type 0 where
  pub room : c ≤ 256
  pub full : length hs ≡ 256
  pub placed : Placed ws at
  pub rest : onward head_due ts c at ws ≡ read_model ws
  pub declares : length ts + length (variables (drop at ws)) ≡ length (variables ws)
  pub front : sources + length (source_words (drop sources ws)) ≡ length (source_words ws)
  pub began : (sources ≡ at) ⊎ (3 < kind (word_at ws sources))
  pub posed : map (headed ws) (take c hs) ++ constraints_from at (drop at ws) ≡ constraints ws

-- after the variables none is read yet
pub posing : {ws ts hs : List ℕ} {at : ℕ} → VariablesSeen head_due ws ts (length ts) at → length hs ≡ 256 → Posing ws ts hs at 0 at
posing {ws} {ts} {hs} {at} o f = record {
  room = omega arith;
  full = f;
  placed = o.placed;
  rest = rw (take-length ts) at o.rest;
  declares = o.declares;
  front = o.front;
  began = inl refl;
  posed = o.same;
}

module _ {ws ts hs : List ℕ} {sources c at : ℕ} (p : Posing ws ts hs sources c at) {f : ℕ} (e : f ≡ fault_head c (word_at ws at)) where
  abbrev w : ℕ
  w = word_at ws at

  at_head : f ≡ fault_at ws ts head_due c at
  at_head = e ∙ sym (head-fault ws ts c at)

  pub head-halted : (f ≡ 0 → ⊥) → stopped ws f at ≡ read_model ws
  unfolding fault_end
  head-halted z = sym (stop-at ws ts head_due c at f refl at_head z) ∙ p.rest

  module _ (z : f ≡ 0) where
    pub head-here : at < length ws
    head-here = here ws ts head_due c at (sym z ∙ at_head)

    passed : onward (after_head w) (ts ++ declared w) (c + started w) (at + 1) ws ≡ read_model ws
    passed = rw (← head-after w) (sym (go_on ws ts head_due c at (sym z ∙ at_head))) ∙ p.rest

    -- a constraint
    module _ (n : kind w ≢ 7) where
      pub posing-one : (c < 256) × (kind w ≡ 4)
      posing-one = elim (is-head c w (sym e ∙ z)) [
        | at-constraint few k lo hi ↦ (few, k)
        | at-end k ↦ absurd (n k)
      ]

      due-arguments : onward (arguments_from (payload w) 0) ts (c + 1) (at + 1) ws ≡ read_model ws
      unfolding after_head declared started
      due-arguments = rw (posing-one.1, append-nil ts) at passed

      module _ {r : Step} (g : ArgumentsRead ws ts (payload w) (at + 1) r) where
        pub arguments-halted : (r.number ≡ 0 → ⊥) → stopped ws r.number r.at ≡ read_model ws
        arguments-halted y = sym (halted (g (c + 1)) y) ∙ due-arguments

        one_more : map (headed ws) (take (c + 1) (set hs c at)) ≡ map (headed ws) (take c hs) ++ (headed ws at ∷ [])
        one_more =
            let e : take (c + 1) (set hs c at) ≡ take c hs ++ (at ∷ []) = rw add-one (take-suc-set hs c at (omega (arith, p.full, posing-one.0))) in
            ap (map (headed ws)) e ∙ map-append (headed ws) (take c hs) (at ∷ [])

        posed-one : constraints_from at (drop at ws) ≡ headed ws at ∷ constraints_from r.at (drop r.at ws)
        unfolding word_at
        posed-one = starts-one ws at head-here posing-one.1 ∙ ap (λ cs. headed ws at ∷ cs) (g 0).skipped.same_constraints

        pub posing-on : r.number ≡ 0 → Posing ws ts (set hs c at) sources (c + 1) r.at
        posing-on y =
            let k = posing-one.1 in
            let s = g (c + 1) in
            record {
              room = omega (arith, posing-one.0);
              full = length-set hs c at ∙ p.full;
              placed = record { within = s.inside; few = p.placed.few };
              rest = sym (gone s y) ∙ due-arguments;
              declares = ap (λ (l : ℕ). length ts + l) (ap length (sym (none-declared ws at head-here (λ j. omega arith) (λ j. omega arith) (λ j. omega arith) ∙ s.skipped.same_variables))) ∙ p.declares;
              front = p.front;
              began = inr (⊎_elim (λ q. rw q (omega arith)) (λ q. q) p.began);
              posed = rw one_more (append_assoc (map (headed ws) (take c hs)) (headed ws at ∷ []) (constraints_from r.at (drop r.at ws)) ∙ rw (← posed-one) p.posed);
            }

    -- the end
    module _ (k : kind w ≡ 7) where
      ended : onward Ended ts c (at + 1) ws ≡ read_model ws
      unfolding after_head declared started
      ended = rw (k, append-nil ts, add-zero c) at passed

      pub after-end : at + 1 < length ws → stopped ws 11 (at + 1) ≡ read_model ws
      unfolding stopped fault_due_in
      after-end l = rw (lt-ltb (at + 1) (length ws) l) (sym (stop-here ws ts Ended c (at + 1) 11 l refl (λ (q : ◌≡◌ {A = ℕ} 11 0). omega arith)) ∙ ended)

      module _ (l : length ws ≤ at + 1) where
        pub no-fault : accepted ≡ read_model ws
        unfolding fault_end
        no-fault = sym (end-here ws ts Ended c (at + 1) l) ∙ ended

        late : 3 < kind (word_at ws sources)
        late = ⊎_elim (λ q. rw q (omega arith)) (λ q. q) p.began

        no_source : length (source_words (drop sources ws)) ≡ 0
        unfolding source_words word_at
        no_source = ap (λ vs. length (source_words vs)) (word-then ws sources (present ws sources (omega (arith, late)))) ∙ rw (lt-leb (kind (word_at ws sources)) 3 late)

        no-variable : length (variables (drop at ws)) ≡ 0
        unfolding variables
        no-variable = ap length (none-declared ws at head-here (λ j. omega arith) (λ j. omega arith) (λ j. omega arith)) ∙ rw (drop_of_length-le ws l)

        no-constraint : constraints_from at (drop at ws) ≡ []
        unfolding constraints_from
        no-constraint = none-posed ws at head-here (λ j. omega arith) ∙ rw (drop_of_length-le ws l)

        all-posed : map (headed ws) (take c hs) ≡ constraints ws
        all-posed = sym (append-nil (map (headed ws) (take c hs))) ∙ rw (no-constraint) at p.posed

        pub seen : Seen ws hs (record { number = 0; place = 0; variables = length ts; sources = sources; constraints = c })
        seen = record {
          accepts = sym no-fault;
          variables_counted = omega (arith, p.declares, no-variable);
          sources_counted = omega (arith, p.front, no_source);
          heads = record {
            room = p.room;
            counted = sym (ap length (sym all-posed) ∙ length-map (take c hs) (headed ws) ∙ length-take-le c hs (omega (arith, p.full, p.room)));
            places = all-posed;
          };
        }
