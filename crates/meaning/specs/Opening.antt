-- SCOPE.md, 'Store': an opening, on all memory.
use Rattle.std.specs.Prelude.{ℕ, ◌≡◌, Bool, List}
use Rattle.std.proofs.Math.Path.{refl, sym}
use Rattle.std.proofs.Common.{ap, ◌∙◌, arith}
use Rattle.std.proofs.Math.Bool.{true, false}
use borrow.Author.Tests.{eqb-true, eq-eqb}
use Rattle.std.proofs.Math.Dec.{eqb}
use Rattle.laws.specs.Choice.{pick}
use Rattle.terms.specs.Terms.{sig_refusal}
use Rattle.definitions.specs.Answers.{refused, opened, refusal_in}
use Rattle.layout.specs.Tables.{Tables, ample}
use Rattle.library.specs.Store.{open_with, empty}
use Rattle.calls.specs.Outcome.{Outcome}
use Rattle.store.specs.Calls.{opening}
use Rattle.meaning.specs.Stand.{Stand}
use Rattle.meaning.specs.Changing.{open_stand}
use Rattle.meaning.specs.Carried.{short_exactly}
use Rattle.meaning.specs.Runs.{Called}

module _ (T : Tables) (sig : List ℕ) (a : ample T ≡ true) where
  number : refusal_in (opening T sig).answer ≡ sig_refusal sig
  unfolding opening
  number = rw a (go (eqb (sig_refusal sig) 0) refl)
    where
      go : (b : Bool) → eqb (sig_refusal sig) 0 ≡ b → refusal_in (pick b opened (refused (sig_refusal sig))) ≡ sig_refusal sig
      go true e = sym (eqb-true (sig_refusal sig) 0 e)
      go false e = refl

  stands : sig_refusal sig ≡ 0 → Stand (opening T sig).after (empty sig)
  unfolding opening
  stands z = rw (a, eq-eqb (sig_refusal sig) 0 z) (open_stand T sig a z)

pub open_number : (T : Tables) (sig out₀ : List ℕ) (o : Outcome) → ample T ≡ true → Called T out₀ (open_with sig) o → o.refused ≡ sig_refusal sig
open_number T sig out₀ o a d = ap (λ (x : Outcome). x.refused) d.is ∙ number T sig a

-- an opening that is not refused
pub open_run : (T : Tables) (sig out₀ : List ℕ) (o : Outcome) → Called T out₀ (open_with sig) o → o.refused ≡ 0 → Stand o.after (empty sig)
open_run T sig out₀ o d z = go (ample T) refl
  where
    go : (b : Bool) → ample T ≡ b → Stand o.after (empty sig)
    go true a = rw (ap (λ (x : Outcome). x.after) d.is) (stands T sig a (sym (open_number T sig out₀ o a d) ∙ z))
    go false a = absurd (let y = sym ((short_exactly T (open_with sig) out₀ o d).1 a) ∙ z in let q : ◌≡◌ {A = ℕ} 1 0 = y in omega arith)
