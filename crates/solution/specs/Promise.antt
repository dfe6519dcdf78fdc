-- SCOPE.md, 'The solver's record' and refusals 13 to 15: what a call that writes the record promises, and that any
-- two answers that it permits coincide.
use Rattle.std.specs.Prelude.{◌≡◌, refl, List, ℕ, ◌≤◌, ◌<◌, get_or, Result, Ok, Err}
use Rattle.std.proofs.Common.{sym, ◌∙◌, arith}
use Rattle.std.proofs.Math.Path.{ap}
use Rattle.std.proofs.Math.ListN.{length}
use Rattle.theory.specs.Flat.{Item}
use Rattle.theory.specs.Unify.{full}
use Rattle.theory.specs.Relations.{Unifies}
use Rattle.terms.specs.Terms.{arity}
use Rattle.definitions.specs.Records.{Unifier, written_fields, record_of, count_of, Short, one_unifier, one_listing}
use Rattle.joining.specs.Run.{Given, term, Unified}
use Rattle.solution.specs.Values.{value, value_full, Sizes}
use Rattle.solution.specs.Filling.{front}
use Rattle.solution.specs.RecordFields.{record_bytes}
use Rattle.solution.specs.Totals.{record_full, total_from, value_short, total_record, bound_count, count_full}
use Rattle.solution.specs.declared.Written.{Written}
use Rattle.solution.specs.declared.Unsolved.{Unsolved}
use Rattle.solution.specs.declared.Unsolved.TheVariants.{Nothing, Long, Room}
use Rattle.laws.specs.Sizes.{value_limit}

-- the record of a unifier is written: m fields, n bytes
pub record Writes (sig : List ℕ) (a b : List Item) (out₀ out : List ℕ) (m n : ℕ) : Type 0 where
  pub by : ℕ → List Item
  pub unifier : Unifier sig a b by
  pub fields : m ≡ count_of by
  pub bytes : n ≡ length (record_of by)
  pub fits : length (record_of by) ≤ length out₀
  pub short : Short by
  pub written : out ≡ front (record_of by) out₀

-- refusal 14: some value has over 2,048 items
pub record TooLong (sig : List ℕ) (a b : List Item) : Type 0 where
  pub by : ℕ → List Item
  pub unifier : Unifier sig a b by
  pub long : (y : ℕ) × (y < 64) × (value_limit < length (by y))

-- refusal 15: the record is longer than the buffer
pub record NoRoom (sig : List ℕ) (a b : List Item) (out₀ : List ℕ) : Type 0 where
  pub by : ℕ → List Item
  pub unifier : Unifier sig a b by
  pub short : Short by
  pub room : length out₀ < length (record_of by)

-- what a call promises of the terms a and b: out₀ before, out after
abbrev pub Promise : List ℕ → List Item → List Item → List ℕ → List ℕ → Result Written Unsolved → Type 0
Promise sig a b out₀ out (Ok w) = Writes sig a b out₀ out w.fields w.bytes
Promise sig a b out₀ out (Err Nothing) = (Unifies (arity sig) a b → ⊥) × (out ≡ out₀)
Promise sig a b out₀ out (Err Long) = TooLong sig a b × (out ≡ out₀)
Promise sig a b out₀ out (Err Room) = NoRoom sig a b out₀ × (out ≡ out₀)

module _ (sig pool : List ℕ) (root : ℕ) (tab : List ℕ) (G : Given sig pool) (u : Unified sig pool root tab) where
  unifier : Unifier sig (term sig pool 0) (term sig pool root) (full u.binds)
  unifier = record { mgu = u.mgu; least = u.least }

  val_full : (y : ℕ) → y < 64 → value sig pool tab 64 y ≡ full u.binds y
  val_full = value_full sig pool tab G u.binds u.good u.table u.few

  rec : record_bytes sig pool tab ≡ record_of (full u.binds)
  rec = record_full sig pool tab G u.binds u.good u.table u.few

  pub promise_long : (sz : List ℕ) → Sizes sig pool tab 64 sz → (y : ℕ) × (y < 64) × (value_limit < get_or sz y 0) → (out : List ℕ) → Promise sig (term sig pool 0) (term sig pool root) out out (Err Long)
  promise_long sz s y out = (record { by = full u.binds; unifier = unifier; long = (y.0, y.1, omega (arith, s y.0 y.1, y.2, ap length (val_full y.0 y.1))) }, refl)

  module _ (sz : List ℕ) (s : Sizes sig pool tab 64 sz) (short : (y : ℕ) → y < 64 → get_or sz y 0 ≤ value_limit) where
    all_short : Short (full u.binds)
    all_short y b = omega (arith, value_short sig pool tab sz s short y b, short y b, ap length (val_full y b))

    pub promise_room : (out : List ℕ) → length out < total_from tab sz 64 0 → Promise sig (term sig pool 0) (term sig pool root) out out (Err Room)
    promise_room out b = (record { by = full u.binds; unifier = unifier; short = all_short; room = omega (arith, total_record sig pool tab sz s short, ap length rec) }, refl)

    pub promise_written : (out₀ out : List ℕ) (m n : ℕ) → total_from tab sz 64 0 ≤ length out₀ → m ≡ bound_count tab 64 0 → n ≡ length (record_bytes sig pool tab) → out ≡ front (record_bytes sig pool tab) out₀
        → Promise sig (term sig pool 0) (term sig pool root) out₀ out (Ok (record { fields = m; bytes = n }))
    promise_written out₀ out m n b d e f = record {
      by = full u.binds;
      unifier = unifier;
      fields = d ∙ count_full sig pool tab G u.binds u.good u.table u.few;
      bytes = e ∙ ap length rec;
      fits = omega (arith, total_record sig pool tab sz s short, ap length rec);
      short = all_short;
      written = f ∙ ap (λ (r : List ℕ). front r out₀) rec;
    }

-- any two answers that the promise permits coincide
module _ (sig : List ℕ) (a b : List Item) (out₀ : List ℕ) where
  same_record : (θ η : ℕ → List Item) → Unifier sig a b θ → Unifier sig a b η → record_of θ ≡ record_of η
  unfolding record_of
  same_record θ η u v = ap written_fields (one_listing sig a b θ η u v)

  same_count : (θ η : ℕ → List Item) → Unifier sig a b θ → Unifier sig a b η → count_of θ ≡ count_of η
  unfolding count_of
  same_count θ η u v = ap length (one_listing sig a b θ η u v)

  some_unifier : (θ : ℕ → List Item) → Unifier sig a b θ → Unifies (arity sig) a b
  some_unifier θ u = record { by = θ; sub = u.mgu.sub; same = u.mgu.unifies }

  same_written : (w w' : Written) → w.fields ≡ w'.fields → w.bytes ≡ w'.bytes → w ≡ w'
  same_written w w' f k =
      let with_fields : ℕ → Written = λ m. record { fields = m; bytes = w.bytes } in
      let with_bytes : ℕ → Written = λ n. record { fields = w'.fields; bytes = n } in
      ap with_fields f ∙ ap with_bytes k

  abbrev pub Coincide : List ℕ → List ℕ → Result Written Unsolved → Result Written Unsolved → Type 0
  Coincide out out' r r' = (r ≡ r') × (out ≡ out')

  not_short : (θ η : ℕ → List Item) → Unifier sig a b θ → Unifier sig a b η → Short θ → (y : ℕ) × (y < 64) × (value_limit < length (η y)) → ⊥
  not_short θ η u v s y = omega (arith, s y.0 y.1, y.2, ap length (one_unifier sig a b θ η u v y.0))

  not_room : (θ η : ℕ → List Item) → Unifier sig a b θ → Unifier sig a b η → length (record_of θ) ≤ length out₀ → length out₀ < length (record_of η) → ⊥
  not_room θ η u v s l = omega (arith, ap length (same_record θ η u v))

  pub coincide : (out out' : List ℕ) (r r' : Result Written Unsolved) → Promise sig a b out₀ out r → Promise sig a b out₀ out' r' → Coincide out out' r r'
  coincide out out' (Ok w) (Ok w') p q =
      let e = same_record p.by q.by p.unifier q.unifier in
      let f : w.fields ≡ w'.fields = p.fields ∙ same_count p.by q.by p.unifier q.unifier ∙ sym q.fields in
      let k : w.bytes ≡ w'.bytes = p.bytes ∙ ap length e ∙ sym q.bytes in
      (ap (λ x. Ok x) (same_written w w' f k), p.written ∙ ap (λ (x : List ℕ). front x out₀) e ∙ sym q.written)
  coincide out out' (Ok w) (Err Nothing) p q = absurd (q.0 (some_unifier p.by p.unifier))
  coincide out out' (Ok w) (Err Long) p q = absurd (not_short p.by q.0.by p.unifier q.0.unifier p.short q.0.long)
  coincide out out' (Ok w) (Err Room) p q = absurd (not_room p.by q.0.by p.unifier q.0.unifier p.fits q.0.room)
  coincide out out' (Err Nothing) (Ok w) p q = absurd (p.0 (some_unifier q.by q.unifier))
  coincide out out' (Err Nothing) (Err Nothing) p q = (refl, p.1 ∙ sym q.1)
  coincide out out' (Err Nothing) (Err Long) p q = absurd (p.0 (some_unifier q.0.by q.0.unifier))
  coincide out out' (Err Nothing) (Err Room) p q = absurd (p.0 (some_unifier q.0.by q.0.unifier))
  coincide out out' (Err Long) (Ok w) p q = absurd (not_short q.by p.0.by q.unifier p.0.unifier q.short p.0.long)
  coincide out out' (Err Long) (Err Nothing) p q = absurd (q.0 (some_unifier p.0.by p.0.unifier))
  coincide out out' (Err Long) (Err Long) p q = (refl, p.1 ∙ sym q.1)
  coincide out out' (Err Long) (Err Room) p q = absurd (not_short q.0.by p.0.by q.0.unifier p.0.unifier q.0.short p.0.long)
  coincide out out' (Err Room) (Ok w) p q = absurd (not_room q.by p.0.by q.unifier p.0.unifier q.fits p.0.room)
  coincide out out' (Err Room) (Err Nothing) p q = absurd (q.0 (some_unifier p.0.by p.0.unifier))
  coincide out out' (Err Room) (Err Long) p q = absurd (not_short p.0.by q.0.by p.0.unifier q.0.unifier p.0.short q.0.long)
  coincide out out' (Err Room) (Err Room) p q = (refl, p.1 ∙ sym q.1)
