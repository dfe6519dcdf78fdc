-- Serves SCOPE.md, 'Store': tables as an opening leaves them stand for the empty store.
use Rattle.std.specs.Prelude.{ℕ, zero, suc, ◌+◌, ◌≤◌, ◌<◌, ◌≡◌, ◌⊎◌, List, [], ◌∷◌, length, get_or}
use Rattle.std.proofs.Common.{sym, ◌∙◌, inl, inr, arith}
use Rattle.std.proofs.Math.Option.{none}
use Rattle.std.proofs.Math.Decide.{ℕ_discrete}
use Rattle.laws.specs.Members.{In, NoDup}
use Rattle.chains.specs.Chains.{Chains, Chain, Linked, end, one, home}
use Rattle.paths.specs.Rep.{Full, Unique}
use Rattle.paths.specs.Insert.{St, GoodTables}
use Rattle.paths.specs.StoredTrees.{Stored}
use Rattle.laws.specs.Sizes.{free_head, key_limit, last_key, link_length}

-- all keys on the chain of the free ones, in order
pub record Fresh (link label : List ℕ) : Type 0 where
  pub next : (k : ℕ) → k < last_key → get_or link k 0 ≡ suc (suc k)
  pub last : get_or link last_key 0 ≡ 0
  pub heads : (b : ℕ) → key_limit ≤ b → b < free_head → get_or link b 0 ≡ 0
  pub first : get_or link free_head 0 ≡ 1
  pub labels : (k : ℕ) → k < key_limit → get_or label k 0 ≡ 0

seq : ℕ → ℕ → List ℕ
seq k zero = []
seq k (suc n) = k ∷ seq (suc k) n

seq_in : (k n j : ℕ) → In j (seq k n) → (k ≤ j) × (j < k + n)
unfolding seq
seq_in k zero j h = absurd h
seq_in k (suc n) j (inl e) = (omega arith, omega arith)
seq_in k (suc n) j (inr h) = let r = seq_in (suc k) n j h in (omega (arith, r.0), omega (arith, r.1))

in_seq : (k n j : ℕ) → k ≤ j → j < k + n → In j (seq k n)
unfolding seq
in_seq k zero j a b = absurd (omega arith)
in_seq k (suc n) j a b = go (ℕ_discrete j k) (in_seq (suc k) n j)
  where
    go : Dec (j ≡ k) → (suc k ≤ j → j < suc k + n → In j (seq (suc k) n)) → (j ≡ k) ⊎ In j (seq (suc k) n)
    go (yes e) f = inl e
    go (no e) f = inr (f (omega arith) (omega arith))

seq_nodup : (k n : ℕ) → NoDup (seq k n)
unfolding seq
seq_nodup k zero = tt
seq_nodup k (suc n) = ((λ h. let r = seq_in (suc k) n k h in omega (arith, r.0)), seq_nodup (suc k) n)

seq_linked : (link label : List ℕ) → Fresh link label → (n k : ℕ) → k + suc n ≡ key_limit → Linked link (suc k) (seq k (suc n))
unfolding seq
seq_linked link label f zero k e = let z : k ≡ last_key = omega arith in one {k = k} {xs = []} (rw (z, f.last) end)
seq_linked link label f (suc n) k e = one {k = k} {xs = seq (suc k) (suc n)} (rw (f.next k (omega arith)) (seq_linked link label f n (suc k) (omega arith)))

pub open_chains : (link label : List ℕ) → Fresh link label → Chains link label key_limit
unfolding Chains home
open_chains link label f b lo hi = go (ℕ_discrete b free_head)
  where
    at : (k : ℕ) → k < key_limit → home (get_or label k 0) ≡ free_head
    at k l = rw (f.labels k l)

    go : Dec (b ≡ free_head) → Chain link label key_limit b
    go (yes e) = record {
      keys = seq 0 key_limit;
      linked = rw (e, f.first) (seq_linked link label f last_key 0 (omega arith));
      nodup = seq_nodup 0 key_limit;
      from = λ k i. let r = seq_in 0 key_limit k i in (omega (arith, r.1), at k (omega (arith, r.1)) ∙ sym e, (λ z. omega (arith, r.1)));
      into = λ k l h z. in_seq 0 key_limit k (omega arith) (omega arith);
    }
    go (no e) = record {
      keys = [];
      linked = rw (f.heads b lo (omega arith)) end;
      nodup = tt;
      from = λ k i. absurd i;
      into = λ k l h z. absurd (e (sym h ∙ at k l));
    }

module _ (S : Type 0) (mem : S → ℕ → ℕ → Type 0) (mark : S → ℕ → ℕ → S) (Ok : S → Type 0) where
  pub open_good : (σ : St S) → Fresh σ.link σ.label → link_length ≤ length σ.link → key_limit ≤ length σ.label → Ok σ.sets → ((k s : ℕ) → mem σ.sets k s → ⊥)
      → GoodTables S mem mark Ok σ (Stored (λ s. none))
  unfolding Unique Full
  open_good σ f a b o e = record {
    rep = record {
      chains = open_chains σ.link σ.label f;
      unique = λ k j l m q z. absurd (z (f.labels k l));
      means = λ k l z. absurd (z (f.labels k l));
      there = λ s P x h. absurd h;
      into = λ k s P x d m. absurd (e k s m);
      from = λ k s P x d h. absurd h;
      free = λ k s l z m. e k s m;
      closed = λ s P x i g h. h;
    };
    full = λ k l z y. absurd (z (f.labels k l));
    links = a;
    labels = b;
    ok = o;
  }
