-- What the exported argument question tells.
use Prim.Native.Nat.{ℕ}
use mathlib.Core.Path.{◌≡◌}
use mathlib.Core.List.{List}
use lib.ListN.{length}
use borrow.Author.Tests.{eq-eqb, ne_eqb}
use Rattle.terms.specs.Terms.{arg_refusal, arg_start, arg_bytes}
use Rattle.export_terms.specs.Arguments.{start_after, length_after}

module _ (sig t : List ℕ) (i was : ℕ) where
  pub start_kept : (arg_refusal sig t i ≡ 0 → ⊥) → was ≡ start_after sig t i was
  unfolding start_after
  start_kept h = rw (ne_eqb (arg_refusal sig t i) 0 h)

  pub length_kept : (arg_refusal sig t i ≡ 0 → ⊥) → was ≡ length_after sig t i was
  unfolding length_after
  length_kept h = rw (ne_eqb (arg_refusal sig t i) 0 h)

  pub start_told : arg_refusal sig t i ≡ 0 → arg_start sig t i ≡ start_after sig t i was
  unfolding start_after
  start_told h = rw (eq-eqb (arg_refusal sig t i) 0 h)

  pub length_told : arg_refusal sig t i ≡ 0 → length (arg_bytes sig t i) ≡ length_after sig t i was
  unfolding length_after
  length_told h = rw (eq-eqb (arg_refusal sig t i) 0 h)
