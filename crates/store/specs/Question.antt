-- SCOPE.md, 'Paths and keys': the set found for the bytes of a key is exactly the slots in use whose term has that key.
use Rattle.std.specs.Prelude.{ℕ, zero, suc, ◌+◌, ◌-◌, ◌*◌, ◌/◌, ◌%◌, ◌≤◌, ◌<◌, min, refl, ◌↔◌, Bool, true, false, ltb, leb, eqb, length, get_or, replicate}
use Rattle.std.proofs.Math.Path.{◌≡◌}
use Rattle.std.proofs.Common.{sym, ◌∙◌, subst, arith, ltb-true, leb-true, eqb-true, eq-eqb, ne_eqb, lt-ltb, le-ltb}
use mathlib.Core.List.{List, [], ◌∷◌}
use Rattle.std.proofs.Math.Option.{Option, some, none}
use Rattle.std.proofs.Math.Decide.{dec_lt}
use Rattle.std.proofs.lemmas.Bool.{eqb-false}
use Rattle.std.specs.Int.Bits.{bit_and}
use Rattle.laws.specs.Choice.{pick}
use Rattle.laws.specs.Digits.{bit, bit_and_lem}
use Rattle.slots.specs.Slots.{has}
use Rattle.slots.proofs.SlotLaws.{get_or_words8}
use Rattle.terms.specs.Terms.{Signed}
use Rattle.keys.specs.Keys.{Place, root, step, Key, key}
use Rattle.keys.specs.Bytes.{step_good, end_good, steps_good, is_key}
use Rattle.definitions.specs.Spelt.{taken}
use Rattle.definitions.specs.KeyBytes.{key_after, key_of}
use Rattle.chains.specs.Chains.{find, find_sound}
use Rattle.keysets.specs.KeySets.{Sets, four, word, mem, met}
use Rattle.paths.specs.Rep.{lab, lab_inj, At, top, kid, Rep, find_den, find_none}
use Rattle.paths.specs.Insert.{DenK, RK}
use Rattle.paths.specs.Locate.{find_le}
use Rattle.paths.specs.StoredTrees.{KeyIn}
use Rattle.layout.specs.Layout.{used_of}
use Rattle.layout.proofs.LayoutLaws.{signature_good}
use Rattle.layout.specs.Tables.{Tables}
use Rattle.store.specs.Tables.{end_number, number_from, key_number, slots_of_key}
use Rattle.store.specs.TablesHold.{Slots, filled, stored_tree, Holds, zero_digit}
use Rattle.store.specs.Changes.{KeysOf}
use Rattle.laws.specs.Sizes.{key_limit, root_place, slot_count}
use Rattle.terms.specs.Terms.{arity}

-- the number that is found is the key's, if some key in use is that key
pub record KeyFound (label : List ℕ) (m : ℕ) (K : Key) : Type 0 where
  pub found : m < key_limit → DenK label m K
  pub lost : key_limit ≤ m → (k : ℕ) → DenK label k K → ⊥

-- the steps so far lead to a place in the table, or to none
data ChainGoing (label : List ℕ) (p : ℕ) (P : Place) : Type 0 where
  here : At label p P → ChainGoing label p P
  nowhere : 8 * key_limit ≤ p → p < root_place → ((n : ℕ) → At label n P → ⊥) → ChainGoing label p P

-- a step that a key may have
step_small : (sig : List ℕ) (f i : ℕ) → Signed sig → step_good sig f i ≡ true → (f < 257) × (i - 1 < 8)
unfolding step_good
step_small sig f i g h =
    let a = taken (ltb f (length sig)) _ h in
    let l = ltb-true f (length sig) a.0 in
    let s = g.short in
    (omega (arith, l, s), go (eqb i 0) refl a.1)
  where
    go : (b : Bool) → eqb i 0 ≡ b → pick b false (leb i (arity sig f)) ≡ true → i - 1 < 8
    go true q r = absurd (let z : ◌≡◌ {A = ℕ} 0 1 = cc in omega arith)
    go false q r = let z = leb-true i (arity sig f) r in let y = eqb-false i 0 q in let w = g.eight f in omega (arith, z, y, w)

-- an end, as the label and the key have it
end_same : (sig : List ℕ) (e : ℕ) → Signed sig → end_good sig e ≡ true → (end_number e ≡ pick (eqb e 65535) 256 e) × (end_number e < 257)
unfolding end_good end_number
end_same sig e g h = go (dec_lt e (length sig)) h
  where
    s : length sig ≤ 256
    s = g.short

    go : Dec (e < length sig) → pick (ltb e (length sig)) true (eqb e 65535) ≡ true → (pick (ltb e 256) e 256 ≡ pick (eqb e 65535) 256 e) × (pick (ltb e 256) e 256 < 257)
    go (yes l) r = rw (lt-ltb e 256 (omega (arith, s)), ne_eqb e 65535 (λ z. omega (arith, s))) (refl, omega (arith, s))
    go (no l) r =
        let q : e ≡ 65535 = eqb-true e 65535 (rw (le-ltb e (length sig) (omega arith)) at r) in
        rw (le-ltb e 256 (omega arith), eq-eqb e 65535 q) (refl, omega arith)

module _ (link label : List ℕ) (mem' : ℕ → ℕ → Type 0) (R : ℕ → Place → ℕ → Type 0) (r : Rep link label mem' R) where
  -- no key stands at a place that is none
  none_there : (p e : ℕ) → 8 * key_limit ≤ p → p < root_place → e < 257 → key_limit ≤ find link label (lab p e)
  none_there p e lo hi l = go (dec_lt (find link label (lab p e)) key_limit)
    where
      not_at : (n : ℕ) (Q : Place) → At label n Q → n ≡ p → ⊥
      not_at n Q top z = omega arith
      not_at n Q (kid a k h f i m) z = omega arith

      go : Dec (find link label (lab p e) < key_limit) → key_limit ≤ find link label (lab p e)
      go (no q) = omega arith
      go (yes q) =
          let s = find_sound link label (lab p e) r.chains q in
          let d = r.means (find link label (lab p e)) q (λ z. omega (arith, s)) in
          let w = d.2 in
          let y = lab_inj w.num p d.1 e w.fits l (sym w.is ∙ s) in
          absurd (not_at w.num d.0 w.at y.0)

  -- one step
  going : (p f i : ℕ) (P : Place) → ChainGoing label p P → f < 257 → i < 8 → ChainGoing label (find link label (lab p f) * 8 + i) (step P f i)
  going p f i P (here a) l b = go (dec_lt (find link label (lab p f)) key_limit)
    where
      k : ℕ
      k = find link label (lab p f)

      go : Dec (k < key_limit) → ChainGoing label (k * 8 + i) (step P f i)
      go (yes q) = here (kid a q (find_sound link label (lab p f) r.chains q) l b refl)
      go (no q) = let z = find_le link label (lab p f) in nowhere (omega (arith, z)) (omega (arith, z)) (λ n s. none_at n s)
        where
          none_at : (n : ℕ) → At label n (step P f i) → ⊥
          none_at n (kid {n = n₁} {k = j} a₁ l₁ h₁ f₁ b₁ m₁) =
              find_none link label mem' R r p P f a l (omega arith) j (record { num = n₁; at = a₁; low = l₁; is = h₁; fits = f₁ })
  going p f i P (nowhere lo hi n) l b =
      let z = find_le link label (lab p f) in
      let y = none_there p f lo hi l in
      nowhere (omega (arith, z, y)) (omega (arith, z, y)) (λ m s. none_at m s)
    where
      none_at : (m : ℕ) → At label m (step P f i) → ⊥
      none_at m (kid {n = n₁} a₁ l₁ h₁ f₁ b₁ m₁) = n n₁ a₁

  -- the end
  named : (p e : ℕ) (P : Place) → ChainGoing label p P → e < 257 → KeyFound label (find link label (lab p e)) (key P e)
  named p e P (here a) l = record { found = λ q. find_den link label mem' R r p P e a l q; lost = λ q k d. find_none link label mem' R r p P e a l q k d }
  named p e P (nowhere lo hi n) l = record { found = λ q. absurd (let z = none_there p e lo hi l in omega (arith, z)); lost = λ q k d. n d.num d.at }

  number_means : (sig : List ℕ) (p : ℕ) (P : Place) (k : List ℕ) → Signed sig → ChainGoing label p P → steps_good sig k ≡ true → KeyFound label (number_from link label p k) (key_after P k)
  unfolding number_from key_after steps_good
  number_means sig p P [] g w h = absurd (let z : ◌≡◌ {A = ℕ} 0 1 = cc in omega arith)
  number_means sig p P (a ∷ []) g w h = absurd (let z : ◌≡◌ {A = ℕ} 0 1 = cc in omega arith)
  number_means sig p P (a ∷ b ∷ []) g w h =
      let e = end_same sig (a * 256 + b) g h in
      rw (← e.0) (named p (end_number (a * 256 + b)) P w e.1)
  number_means sig p P (a ∷ b ∷ i ∷ k) g w h =
      let q = taken (step_good sig (a * 256 + b) i) _ h in
      let s = step_small sig (a * 256 + b) i g q.0 in
      number_means sig (find link label (lab p (a * 256 + b)) * 8 + (i - 1)) (step P (a * 256 + b) (i - 1)) k g (going p (a * 256 + b) (i - 1) P w s.0 s.1) q.1

-- the slots of a key among those of a set
met_has : (S : Sets) (m : ℕ) (ws : List ℕ) (s : ℕ) → m < key_limit → s < slot_count → has (met S m ws) s ≡ min (bit (word S m (s / 64)) (s % 64)) (has ws s)
unfolding met has
met_has S m ws s l h = rw (lt-ltb m key_limit l, get_or_words8 (λ i. bit_and (word S m i) (get_or ws i 0)) (s / 64) (omega arith)) (bit_and_lem (word S m (s / 64)) (get_or ws (s / 64) 0) (s % 64))

met_none : (S : Sets) (m : ℕ) (ws : List ℕ) (s : ℕ) → key_limit ≤ m → has (met S m ws) s ≡ 0
unfolding met has
met_none S m ws s l = rw (le-ltb m key_limit l) (zero_words 8 (s / 64))
  where
    zeros : ℕ → List ℕ
    zeros n = replicate n 0

    zero_words : (n i : ℕ) → bit (get_or (zeros n) i 0) (s % 64) ≡ 0
    zero_words zero i = zero_digit (s % 64)
    zero_words (suc n) zero = zero_digit (s % 64)
    zero_words (suc n) (suc i) = zero_words n i

-- THE KEY QUESTION: a slot is listed exactly where it holds a term that has the key
pub key_means : (T : Tables) (sig : List ℕ) (st : Slots) (k : List ℕ) (s : ℕ) → Holds T sig st → is_key sig k ≡ true → s < slot_count → (has (slots_of_key T k) s ≡ 1) ↔ RK (KeysOf sig st) s (key_of k)
unfolding slots_of_key key_number is_key key_of
key_means T sig st k s h e l = go (key_after root k) n (dec_lt m key_limit)
  where
    G : Signed sig
    G = subst Signed h.signature (signature_good T.bytes)

    S : Sets
    S = four T.s0 T.s1 T.s2 T.s3

    m : ℕ
    m = number_from T.link T.label root_place k

    good_steps : (b : Bool) → pick b false (steps_good sig k) ≡ true → steps_good sig k ≡ true
    good_steps true q = absurd (let z : ◌≡◌ {A = ℕ} 0 1 = cc in omega arith)
    good_steps false q = q

    n : KeyFound T.label m (key_after root k)
    n = number_means T.link T.label (mem S) (KeysOf sig st) h.index.rep sig root_place root k G (here top) (good_steps (ltb 95 (length k)) e)

    in_slot : (P : Place) (x : ℕ) → KeysOf sig st s P x → has (used_of T.used) s ≡ 1
    in_slot P x q = h.slots s l ∙ some_there (st s) q
      where
        some_there : (o : Option (List ℕ)) → KeyIn (stored_tree sig o) P x → filled o ≡ 1
        some_there none q = absurd q
        some_there (some t) q = refl

    go : (K : Key) → KeyFound T.label m K → Dec (m < key_limit) → (has (met S m (used_of T.used)) s ≡ 1) ↔ RK (KeysOf sig st) s K
    go (key P x) d (yes q) = (
      (λ z. let y = met_has S m (used_of T.used) s q l in h.index.rep.into m s P x (d.found q) (q, l, omega (arith, z, y))),
      (λ z. let y = met_has S m (used_of T.used) s q l in let w = h.index.rep.from m s P x (d.found q) z in let v = in_slot P x z in let b = w.2 in omega (arith, y, v, b)),
    )
    go (key P x) d (no q) = (
      (λ z. absurd (let y = met_none S m (used_of T.used) s (omega arith) in omega (arith, y, z))),
      (λ z. absurd (let w = h.index.rep.there s P x z in d.lost (omega arith) w.0 w.1)),
    )
