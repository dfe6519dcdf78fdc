-- Serves SCOPE.md, 'The solver's record' and refusals 13 to 15: what the running solver promises is the answer of the
-- definitions.
use Rattle.std.specs.Prelude.{ℕ, zero, suc, ◌+◌, ◌≤◌, ◌<◌, ◌≡◌, refl, List, Bool, true, false, ltb, Result, Ok, Err}
use Rattle.std.proofs.Common.{sym, ◌∙◌, arith, lt-ltb, le-ltb, ltb-true, ltb-false}
use Rattle.std.proofs.Math.Path.{ap}
use Rattle.std.proofs.Math.Option.{Option, some, none}
use Rattle.std.proofs.Math.Decide.{ℕ_discrete}
use Rattle.std.proofs.Math.ListN.{length}
use Rattle.std.proofs.lemmas.List.Edits.{sets, sets-eq}
use Rattle.laws.specs.Choice.{pick}
use Rattle.refusals.specs.declared.Refusal.{Refusal}
use Rattle.theory.specs.Flat.{Item}
use Rattle.theory.specs.Unify.{Bind, full}
use Rattle.theory.specs.Items.{items, shift, Fine}
use Rattle.theory.specs.Relations.{Unifies}
use Rattle.theory.specs.Solver.{RightBindings}
use Rattle.definitions.specs.Spelt.{clash}
use Rattle.definitions.specs.Decisions.{bindings?, bindings_right}
use Rattle.definitions.specs.Records.{Unifier, record_of, count_of, written_fields, Short, one_unifier, one_listing}
use Rattle.definitions.specs.Answers.{done, refuse, long_from, recorded}
use Rattle.solution.specs.Filling.{front}
use Rattle.solution.specs.Promise.{Promise}
use Rattle.solution.specs.declared.Written.{Written}
use Rattle.solution.specs.declared.Unsolved.{Unsolved}
use Rattle.solution.specs.declared.Unsolved.TheVariants.{Nothing, Long, Room}
use Rattle.layout.specs.Tables.{Tables}
use Rattle.calls.specs.Outcome.{Reply, outcome, told, result, refused_told, done_told}
use Rattle.laws.specs.Sizes.{value_limit}
use Rattle.terms.specs.Terms.{arity}

-- no value over 2,048 items, as a test
long_from_lem : (θ : ℕ → List Item) (k y : ℕ) → long_from θ k y ≡ true → (z : ℕ) × (z < y + k) × (value_limit < length (θ z))
unfolding long_from
long_from_lem θ zero y h = clash h
long_from_lem θ (suc k) y h = go (ltb value_limit (length (θ y))) refl h (long_from_lem θ k (suc y))
  where
    go : (b : Bool) → ltb value_limit (length (θ y)) ≡ b → pick b true (long_from θ k (suc y)) ≡ true → (long_from θ k (suc y) ≡ true → (z : ℕ) × (z < suc y + k) × (value_limit < length (θ z))) → (z : ℕ) × (z < y + suc k) × (value_limit < length (θ z))
    go true e h ih = (y, omega arith, ltb-true _ _ e)
    go false e h ih = let w = ih h in (w.0, (let l = w.1 in omega arith), w.2)

short_from_lem : (θ : ℕ → List Item) (k y : ℕ) → long_from θ k y ≡ false → (z : ℕ) → y ≤ z → z < y + k → length (θ z) ≤ value_limit
unfolding long_from
short_from_lem θ zero y h z a b = absurd (omega arith)
short_from_lem θ (suc k) y h z a b = go (ltb value_limit (length (θ y))) refl h (short_from_lem θ k (suc y)) (ℕ_discrete y z)
  where
    go : (b : Bool) → ltb value_limit (length (θ y)) ≡ b → pick b true (long_from θ k (suc y)) ≡ false → (long_from θ k (suc y) ≡ false → (z : ℕ) → suc y ≤ z → z < suc y + k → length (θ z) ≤ value_limit) → Dec (y ≡ z) → length (θ z) ≤ value_limit
    go true e h ih d = clash (sym h)
    go false e h ih (yes q) = rw (← q) (ltb-false _ _ e)
    go false e h ih (no q) = ih h z (omega arith) (omega arith)

long_no : (θ : ℕ → List Item) → Short θ → long_from θ 64 0 ≡ false
long_no θ s = go (long_from θ 64 0) refl
  where
    go : (b : Bool) → long_from θ 64 0 ≡ b → b ≡ false
    go true e = let w = long_from_lem θ 64 0 e in absurd (omega (arith, s w.0 w.1, w.2))
    go false e = refl

long_yes : (θ : ℕ → List Item) → (y : ℕ) × (y < 64) × (value_limit < length (θ y)) → long_from θ 64 0 ≡ true
long_yes θ w = go (long_from θ 64 0) refl
  where
    go : (b : Bool) → long_from θ 64 0 ≡ b → b ≡ true
    go true e = refl
    go false e = absurd (omega (arith, short_from_lem θ 64 0 e w.0 (omega arith) w.1, w.2))

pub front_sets : (w out : List ℕ) → length w ≤ length out → front w out ≡ sets out 0 w
front_sets w out h = let z : 0 + length w ≡ length w = omega arith in sym (rw z at (sets-eq w out 0 (omega arith)))

-- the refusal for want of a record
abbrev pub refusal_of : Unsolved → Refusal
refusal_of Nothing = Refusal.Nothing
refusal_of Long = Refusal.Long
refusal_of Room = Refusal.Room

-- what solve replies where the solver answered so
abbrev pub reply_of : Result Written Unsolved → Reply
reply_of (Ok w) = Ok (record { first = w.fields; second = w.bytes })
reply_of (Err why) = Err (refusal_of why)

-- a and b are a stored term and a question, apart; out₀ before, out after
module _ (sig : List ℕ) (a b : List Item) (T : Tables) (out₀ out : List ℕ) where
  -- what two unifiers share
  same_record : (θ η : ℕ → List Item) → Unifier sig a b θ → Unifier sig a b η → record_of θ ≡ record_of η
  unfolding record_of
  same_record θ η u v = ap written_fields (one_listing sig a b θ η u v)

  same_count : (θ η : ℕ → List Item) → Unifier sig a b θ → Unifier sig a b η → count_of θ ≡ count_of η
  unfolding count_of
  same_count θ η u v = ap length (one_listing sig a b θ η u v)

  same_short : (θ η : ℕ → List Item) → Unifier sig a b θ → Unifier sig a b η → Short θ → Short η
  same_short θ η u v s y l = omega (arith, s y l, ap length (one_unifier sig a b θ η u v y))

  some_unifier : (θ : ℕ → List Item) → Unifier sig a b θ → Unifies (arity sig) a b
  some_unifier θ u = record { by = θ; sub = u.mgu.sub; same = u.mgu.unifies }

  -- a unifier that is found, and one that the solver promises
  module _ (B : List Bind) (u : Unifier sig a b (full B)) (θ : ℕ → List Item) (v : Unifier sig a b θ) where
    told_long : (y : ℕ) × (y < 64) × (value_limit < length (θ y)) → recorded (some B) (length out₀) ≡ refuse Refusal.Long
    told_long y = rw (long_yes (full B) (y.0, y.1, omega (arith, y.2, ap length (one_unifier sig a b θ (full B) v u y.0))))

    module _ (s : Short θ) where
      told_room : length out₀ < length (record_of θ) → recorded (some B) (length out₀) ≡ refuse Refusal.Room
      told_room l = rw (long_no (full B) (same_short θ (full B) v u s), lt-ltb (length out₀) (length (record_of (full B))) (omega (arith, l, ap length (same_record θ (full B) v u))))

      told_record : (m n : ℕ) → m ≡ count_of θ → n ≡ length (record_of θ) → length (record_of θ) ≤ length out₀ → recorded (some B) (length out₀) ≡ done m n (record_of θ)
      told_record m n c d l =
          let e = same_record θ (full B) v u in
          rw (long_no (full B) (same_short θ (full B) v u s), le-ltb (length out₀) (length (record_of (full B))) (omega (arith, l, ap length e)), c, d, e, same_count θ (full B) v u)

  recorded_by : (o : Option (List Bind)) → RightBindings (arity sig) a b o → (k : Result Written Unsolved) → Promise sig a b out₀ out k → outcome (reply_of k) T out ≡ told out₀ (result (recorded o (length out₀)) T T)
  recorded_by none s (Ok w) p = absurd (s p.by p.unifier.mgu.sub p.unifier.mgu.unifies)
  recorded_by none s (Err Nothing) p = rw p.1 (refused_told Refusal.Nothing T T out₀ _ refl)
  recorded_by none s (Err Long) p = absurd (s p.0.by p.0.unifier.mgu.sub p.0.unifier.mgu.unifies)
  recorded_by none s (Err Room) p = absurd (s p.0.by p.0.unifier.mgu.sub p.0.unifier.mgu.unifies)
  recorded_by (some B) s (Ok w) p =
      let u : Unifier sig a b (full B) = record { mgu = s.1; least = s.2 } in
      done_told w.fields w.bytes (record_of p.by) T T T out₀ out _ (told_record B u p.by p.unifier p.short w.fields w.bytes p.fields p.bytes p.fits) refl (p.written ∙ front_sets (record_of p.by) out₀ p.fits)
  recorded_by (some B) s (Err Nothing) p = absurd (p.0 (record { by = full B; sub = s.1.sub; same = s.1.unifies }))
  recorded_by (some B) s (Err Long) p =
      let u : Unifier sig a b (full B) = record { mgu = s.1; least = s.2 } in
      rw p.1 (refused_told Refusal.Long T T out₀ _ (told_long B u p.0.by p.0.unifier p.0.long))
  recorded_by (some B) s (Err Room) p =
      let u : Unifier sig a b (full B) = record { mgu = s.1; least = s.2 } in
      rw p.1 (refused_told Refusal.Room T T out₀ _ (told_room B u p.0.by p.0.unifier p.0.short p.0.room))

-- the running solver's result is the record of the definitions
pub recorded_told : (sig t q : List ℕ) → Fine sig t → Fine sig q → (T : Tables) (out₀ out : List ℕ) (k : Result Written Unsolved) → Promise sig (items t) (shift 32 (items q)) out₀ out k
    → outcome (reply_of k) T out ≡ told out₀ (result (recorded (bindings? sig t q) (length out₀)) T T)
recorded_told sig t q f g T out₀ out k p = recorded_by sig (items t) (shift 32 (items q)) T out₀ out (bindings? sig t q) (bindings_right sig t q f g) k p
