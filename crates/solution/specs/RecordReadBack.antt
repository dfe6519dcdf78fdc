-- What a written answer's bytes say, read back: whatever the promise of `record` permits has the properties that
-- SCOPE.md asks ('The solver's record').
use Rattle.std.specs.Prelude.{ℕ, ◌≤◌, ◌≡◌, List, length, take, drop, Ok}
use Rattle.std.proofs.Common.{arith, sym, ap, ◌∙◌, take_at, drop_at}
use Rattle.theory.specs.Flat.{Item}
use Rattle.theory.specs.Items.{items, shift}
use Rattle.theory.specs.Match.{once}
use Rattle.theory.specs.Unify.{Has}
use Rattle.std.proofs.Math.Option.{some}
use Rattle.definitions.specs.Records.{record_of, IsRecord}
use Rattle.definitions.specs.Decisions.{record?, record_only}
use Rattle.definitions.specs.ReadBack.{read_fields, Reads, listed_has, read_record, read_count, read_value, read_back}
use Rattle.unifiable.specs.Pool.{Asked}
use Rattle.solution.specs.Promise.{Promise}
use Rattle.solution.specs.declared.Written.{Written}
use Rattle.laws.specs.Sizes.{value_limit}

module _ (sig t q : List ℕ) (A : Asked sig t q) (out₀ out : List ℕ) (w : Written) (p : Promise sig (items t) (shift 32 (items q)) out₀ out (Ok w)) where
  first_bytes : take w.bytes out ≡ record_of p.by
  first_bytes = ap (take w.bytes) p.written ∙ take_at (record_of p.by) (drop (length (record_of p.by)) out₀) w.bytes (sym p.bytes)

  -- the bytes written are the record, and the one that the definitions compute
  pub answer_record : IsRecord sig t q (take w.bytes out)
  answer_record = record { by = p.by; unifier = p.unifier; is = first_bytes }

  pub answer_computed : record? sig t q ≡ some (take w.bytes out)
  answer_computed = record_only sig t q A.stored A.question (take w.bytes out) answer_record

  -- read as fields, they are the unifier
  pub answer_value : (x : ℕ) → once (read_fields (take w.bytes out)) x ≡ p.by x
  answer_value x = ap (λ r. once (read_fields r) x) first_bytes ∙ read_value sig t q A.stored A.question p.by p.unifier x

  -- they make both terms the same, every unifier factors through them, and so on; w.fields is their number
  pub answer_reads : Reads sig t q (read_fields (take w.bytes out)) × (w.fields ≡ length (read_fields (take w.bytes out)))
  answer_reads = (
    rw first_bytes (read_back sig t q A.stored A.question p.by p.unifier),
    p.fields ∙ read_count sig t q A.stored A.question p.by p.unifier ∙ ap (λ r. length (read_fields r)) (sym first_bytes),
  )

  -- no value has over 2,048 items
  pub answer_short : (x : ℕ) (u : List Item) → Has x u (read_fields (take w.bytes out)) → length u ≤ value_limit
  answer_short x u h =
      let l = listed_has p.by 64 0 x u (rw (first_bytes, read_record sig t q A.stored A.question p.by p.unifier) at h) in
      omega (arith, ap length l.0, p.short x (omega (arith, l.2)))

  -- and beyond them the buffer is as it was
  pub answer_beyond : drop w.bytes out ≡ drop w.bytes out₀
  answer_beyond =
      ap (drop w.bytes) p.written ∙ drop_at (record_of p.by) (drop (length (record_of p.by)) out₀) w.bytes (sym p.bytes) ∙ ap (λ (k : ℕ). drop k out₀) (sym p.bytes)
