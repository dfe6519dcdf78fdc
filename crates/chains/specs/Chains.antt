-- Serves SCOPE.md, 'Store' ('freed keys are used again'): chains of keys through one table of links: link[k] for a
-- key k below 4,096, and from 4,096 on where each chain starts. A link is 0 at a chain's end, else one more than the
-- key.
use Rattle.std.specs.Prelude.{ℕ, zero, suc, ◌+◌, ◌%◌, ◌≤◌, ◌<◌, ◌≡◌, refl, List, [], ◌∷◌, Bool, true, false, eqb, length, get_or, set}
use Rattle.std.proofs.Common.{sym, subst, ap, ◌∙◌, inl, inr, ⊎_elim, arith, mod-eq_of_lt, eq-eqb, ne_eqb, length-set, get_or-set_same, get_or-set_other}
use Rattle.std.proofs.Math.Decide.{ℕ_discrete}
use Rattle.laws.specs.Members.{In, NoDup, nodup_bound}
use Rattle.laws.specs.Choice.{pick}
use Rattle.laws.specs.Sizes.{chain_count, free_head, key_limit, link_length}

-- where the chain of a label starts: the free keys, whose label is 0, have a chain of their own
unfoldable pub home : ℕ → ℕ
home zero = free_head
home (suc l) = key_limit + l % chain_count

-- the first key with label w on the chain from the link x on; 4096 where there is none
unfoldable pub found_from : List ℕ → List ℕ → ℕ → ℕ → ℕ → ℕ
found_from link label w zero x = key_limit
found_from link label w (suc f) zero = key_limit
found_from link label w (suc f) (suc k) = pick (eqb (get_or label (k % key_limit) 0) w) (k % key_limit)
    (found_from link label w f (get_or link (k % key_limit) 0))

unfoldable pub find : List ℕ → List ℕ → ℕ → ℕ
find link label w = found_from link label w key_limit (get_or link (home w) 0)

-- the links with the key k taken off the chain that goes on at place `at` with the link x
unfoldable pub unlink : List ℕ → ℕ → ℕ → ℕ → ℕ → List ℕ
unlink link k zero at x = link
unlink link k (suc f) at zero = link
unlink link k (suc f) at (suc j) = pick (eqb j k) (set link at (get_or link k 0))
    (unlink link k f (j % key_limit) (get_or link (j % key_limit) 0))

unfoldable pub taken : List ℕ → List ℕ → ℕ → List ℕ
taken link label k = unlink link k key_limit (home (get_or label k 0)) (get_or link (home (get_or label k 0)) 0)

unfoldable pub pushed : List ℕ → ℕ → ℕ → List ℕ
pushed link at k = set (set link k (get_or link at 0)) at (suc k)

-- the links after key k gets label w
unfoldable pub relinked : List ℕ → List ℕ → ℕ → ℕ → List ℕ
relinked link label k w = pushed (taken link label k) (home w) k

pub data Linked (link : List ℕ) : ℕ → List ℕ → Type 0 where
  end : Linked link 0 []
  one : {k : ℕ} {xs : List ℕ} → Linked link (get_or link k 0) xs → Linked link (suc k) (k ∷ xs)

-- links that agree at the members agree on the chain
pub linked_frame : (link link' : List ℕ) (x : ℕ) (xs : List ℕ) → Linked link x xs → ((k : ℕ) → In k xs → get_or link' k 0 ≡ get_or link k 0) → Linked link' x xs
linked_frame link link' x xs end h = end
linked_frame link link' x xs (one {k = k} {xs = ys} l) h =
    one {k = k} {xs = ys} (rw (h k (inl refl)) (linked_frame link link' _ ys l (λ j i. h j (inr i))))

-- the search finds a key of the chain with that label, if there is one
pub found_sound : (link label : List ℕ) (w f x : ℕ) (xs : List ℕ) → Linked link x xs → ((k : ℕ) → In k xs → k < key_limit)
    → found_from link label w f x < key_limit → In (found_from link label w f x) xs × (get_or label (found_from link label w f x) 0 ≡ w)
unfolding found_from
found_sound link label w zero x xs l b h = absurd (omega arith)
found_sound link label w (suc f) x xs end b h = absurd (omega arith)
found_sound link label w (suc f) x xs (one {k = k} {xs = ys} l) b h =
    let e : k % key_limit ≡ k = mod-eq_of_lt (b k (inl refl)) in
    let h' = rw e at h in
    let s : found_from link label w (suc f) (suc k) ≡ pick (eqb (get_or label k 0) w) k r = rw e in
    subst P (sym s) (go (ℕ_discrete (get_or label k 0) w) h' (found_sound link label w f (get_or link k 0) ys l (λ j i. b j (inr i))))
  where
    r : ℕ
    r = found_from link label w f (get_or link k 0)

    P : ℕ → Type 0
    P m = In m (k ∷ ys) × (get_or label m 0 ≡ w)

    go : Dec (get_or label k 0 ≡ w) → pick (eqb (get_or label k 0) w) k r < key_limit → (r < key_limit → In r ys × (get_or label r 0 ≡ w)) → P (pick (eqb (get_or label k 0) w) k r)
    go (yes e) g ih = rw (eq-eqb _ _ e) (inl refl, e)
    go (no n) g ih =
        let e : pick (eqb (get_or label k 0) w) k r ≡ r = rw (ne_eqb _ _ n) in
        let g' = rw e at g in
        subst P (sym e) (inr (ih g').0, (ih g').1)

pub found_complete : (link label : List ℕ) (w f x : ℕ) (xs : List ℕ) → Linked link x xs → ((k : ℕ) → In k xs → k < key_limit)
    → length xs ≤ f → (k : ℕ) → In k xs → get_or label k 0 ≡ w → found_from link label w f x < key_limit
unfolding found_from
found_complete link label w f x xs end b n k i e = absurd i
found_complete link label w zero x xs (one l) b n k i e = absurd (omega arith)
found_complete link label w (suc f) x xs (one {k = j} {xs = ys} l) b n k i e =
    let m : j % key_limit ≡ j = mod-eq_of_lt (b j (inl refl)) in
    rw m (go (ℕ_discrete (get_or label j 0) w) i (λ i'. found_complete link label w f (get_or link j 0) ys l (λ j i. b j (inr i)) (omega arith) k i' e))
  where
    go : Dec (get_or label j 0 ≡ w) → In k (j ∷ ys) → (In k ys → found_from link label w f (get_or link j 0) < key_limit)
        → pick (eqb (get_or label j 0) w) j (found_from link label w f (get_or link j 0)) < key_limit
    go (yes e') i ih = rw (eq-eqb _ _ e') (b j (inl refl))
    go (no n) (inl q) ih = absurd (n (rw q at e))
    go (no n) (inr i) ih = rw (ne_eqb _ _ n) (ih i)

-- a chain after k is taken off
pub record Shorter (link link' : List ℕ) (at k : ℕ) (xs : List ℕ) : Type 0 where
  pub left : List ℕ
  pub linked : Linked link' (get_or link' at 0) left
  pub nodup : NoDup left
  pub from : (j : ℕ) → In j left → In j xs × (j ≡ k → ⊥)
  pub into : (j : ℕ) → In j xs → (j ≡ k → ⊥) → In j left
  pub frame : (p : ℕ) → (p ≡ at → ⊥) → (In p xs → ⊥) → get_or link' p 0 ≡ get_or link p 0
  pub same : length link' ≡ length link

shorter : (link : List ℕ) (k f at x : ℕ) (xs : List ℕ) → get_or link at 0 ≡ x → Linked link x xs → at < length link → key_limit ≤ length link → (In at xs → ⊥) → NoDup xs
    → ((j : ℕ) → In j xs → j < key_limit) → length xs ≤ f → In k xs → Shorter link (unlink link k f at x) at k xs
unfolding unlink
shorter link k f at x xs a end m n o d b t i = absurd i
shorter link k zero at x xs a (one l) m n o d b t i = absurd (omega arith)
shorter link k (suc f) at x xs a (one {k = j} {xs = ys} l) m n o d b t i =
    let e : j % key_limit ≡ j = mod-eq_of_lt (b j (inl refl)) in
    rw e (go (ℕ_discrete j k) i (λ i'. shorter link k f j (get_or link j 0) ys refl l (omega (arith, b j (inl refl))) n d.0 d.1 (λ p q. b p (inr q)) (omega arith) i'))
  where
    tail : List ℕ
    tail = unlink link k f j (get_or link j 0)

    go : Dec (j ≡ k) → In k (j ∷ ys) → (In k ys → Shorter link tail j k ys) → Shorter link (pick (eqb j k) (set link at (get_or link k 0)) tail) at k (j ∷ ys)
    go (yes e) i ih = rw (eq-eqb _ _ e) (record {
      left = ys;
      linked = rw get_or-set_same (rw e at (linked_frame link (set link at (get_or link k 0)) (get_or link j 0) ys l (λ p q. get_or-set_other link at p (get_or link k 0) 0 (λ z. o (inr (rw z at q))))));
      nodup = d.1;
      from = λ p q. (inr q, (λ z. d.0 (rw (z ∙ sym e) at q)));
      into = λ p q z. ⊎_elim (λ (u : p ≡ j). absurd (z (u ∙ e))) (λ u. u) q;
      frame = λ p z w. get_or-set_other link at p (get_or link k 0) 0 z;
      same = length-set link at (get_or link k 0);
    })
    go (no g) (inl z) ih = absurd (g (sym z))
    go (no g) (inr i) ih = let s = ih i in
        let h : get_or tail at 0 ≡ suc j = s.frame at (λ z. o (inl z)) (λ q. o (inr q)) ∙ a in
        rw (ne_eqb _ _ g) (record {
          left = j ∷ s.left;
          linked = rw h (one s.linked);
          nodup = ((λ q. d.0 (s.from j q).0), s.nodup);
          from = λ p q. ⊎_elim (λ (u : p ≡ j). (inl u, (λ z. g (sym u ∙ z)))) (λ u. (inr (s.from p u).0, (s.from p u).1)) q;
          into = λ p q z. ⊎_elim (λ (u : p ≡ j). inl u) (λ u. inr (s.into p u z)) q;
          frame = λ p z w. s.frame p (λ u. w (inl u)) (λ u. w (inr u));
          same = s.same;
        })

-- the chain that starts at b has the keys whose label belongs there, each once, except the key `out` (4096: none)
pub record Chain (link label : List ℕ) (out b : ℕ) : Type 0 where
  pub keys : List ℕ
  pub linked : Linked link (get_or link b 0) keys
  pub nodup : NoDup keys
  pub from : (k : ℕ) → In k keys → (k < key_limit) × (home (get_or label k 0) ≡ b) × (k ≡ out → ⊥)
  pub into : (k : ℕ) → k < key_limit → home (get_or label k 0) ≡ b → (k ≡ out → ⊥) → In k keys

unfoldable pub Chains : List ℕ → List ℕ → ℕ → Type 0
Chains link label out = (b : ℕ) → key_limit ≤ b → b < link_length → Chain link label out b

pub home_low : (w : ℕ) → (key_limit ≤ home w) × (home w < link_length)
unfolding home
home_low zero = (omega arith, omega arith)
home_low (suc l) = (omega arith, omega arith)

-- find answers a key with the label, if some key has it
pub find_sound : (link label : List ℕ) (w : ℕ) → Chains link label key_limit → find link label w < key_limit → get_or label (find link label w) 0 ≡ w
unfolding find Chains
find_sound link label w c h = let d = c (home w) (home_low w).0 (home_low w).1 in
    (found_sound link label w key_limit (get_or link (home w) 0) d.keys d.linked (λ k i. (d.from k i).0) h).1

pub find_complete : (link label : List ℕ) (w k : ℕ) → Chains link label key_limit → k < key_limit → get_or label k 0 ≡ w → find link label w < key_limit
unfolding find Chains
find_complete link label w k c h e = let d = c (home w) (home_low w).0 (home_low w).1 in
    found_complete link label w key_limit (get_or link (home w) 0) d.keys d.linked (λ k i. (d.from k i).0)
    (nodup_bound key_limit d.keys d.nodup (λ k i. (d.from k i).0)) k (d.into k h (ap home e) (λ z. omega arith)) e

-- k taken off its chain
pub taken_chains : (link label : List ℕ) (k : ℕ) → link_length ≤ length link → k < key_limit → Chains link label key_limit → Chains (taken link label k) label k × (length (taken link label k) ≡ length link)
unfolding taken Chains
taken_chains link label k n h c = ((λ b lo hi. go b lo hi (ℕ_discrete b at)), s.same)
  where
    at : ℕ
    at = home (get_or label k 0)

    lo_at : (key_limit ≤ at) × (at < link_length)
    lo_at = home_low (get_or label k 0)

    d : Chain link label key_limit at
    d = c at lo_at.0 lo_at.1

    link' : List ℕ
    link' = unlink link k key_limit at (get_or link at 0)

    s : Shorter link link' at k d.keys
    s = shorter link k key_limit at (get_or link at 0) d.keys refl d.linked (omega (arith, lo_at.1)) (omega arith) (λ i. let z = (d.from at i).0 in omega (arith, z, lo_at.0))
        d.nodup (λ j i. (d.from j i).0) (nodup_bound key_limit d.keys d.nodup (λ k i. (d.from k i).0)) (d.into k h refl (λ z. omega arith))

    go : (b : ℕ) → key_limit ≤ b → b < link_length → Dec (b ≡ at) → Chain link' label k b
    go b lo hi (yes e) = rw e (record {
      keys = s.left;
      linked = s.linked;
      nodup = s.nodup;
      from = λ j i. let m = s.from j i in ((d.from j m.0).0, (d.from j m.0).1, m.1);
      into = λ j l g z. s.into j (d.into j l g (λ u. omega arith)) z;
    })
    go b lo hi (no f) = let a = c b lo hi in record {
      keys = a.keys;
      linked = rw (s.frame b f (λ i. let z = (d.from b i).0 in omega arith)) (linked_frame link link' (get_or link b 0) a.keys a.linked
          (λ j i. s.frame j (λ z. let g = (a.from j i).0 in omega (arith, lo_at.0)) (λ q. f (sym (a.from j i).1 ∙ (d.from j q).1))));
      nodup = a.nodup;
      from = λ j i. ((a.from j i).0, (a.from j i).1, (λ z. f (sym (a.from j i).1 ∙ ap (λ (q : ℕ). home (get_or label q 0)) z)));
      into = λ j l g z. a.into j l g (λ u. omega arith);
    }

-- k put in front of the chain of its new label
pub pushed_chains : (link label : List ℕ) (k w : ℕ) → link_length ≤ length link → k < key_limit → k < length label → Chains link label k → Chains (pushed link (home w) k) (set label k w) key_limit
unfolding pushed Chains
pushed_chains link label k w n h m c b lo hi = go (ℕ_discrete b at)
  where
    at : ℕ
    at = home w

    lo_at : (key_limit ≤ at) × (at < link_length)
    lo_at = home_low w

    a : Chain link label k b
    a = c b lo hi

    link₁ : List ℕ
    link₁ = set link k (get_or link at 0)

    link' : List ℕ
    link' = set link₁ at (suc k)

    len : length link₁ ≡ length link
    len = length-set link k (get_or link at 0)

    other : (j : ℕ) → (j ≡ k → ⊥) → (j ≡ at → ⊥) → get_or link' j 0 ≡ get_or link j 0
    other j y z = get_or-set_other link₁ at j (suc k) 0 z ∙ get_or-set_other link k j (get_or link at 0) 0 y

    here : get_or link' at 0 ≡ suc k
    here = get_or-set_same link₁ at (suc k) 0 (omega (arith, lo_at.1, len))

    next : get_or link' k 0 ≡ get_or link at 0
    next = get_or-set_other link₁ at k (suc k) 0 (λ z. omega (arith, lo_at.0)) ∙ get_or-set_same link k (get_or link at 0) 0 (omega arith)

    rest : (x : ℕ) → Linked link x a.keys → Linked link' x a.keys
    rest x l = linked_frame link link' x a.keys l (λ j i. other j (a.from j i).2 (λ z. let g = (a.from j i).0 in omega (arith, lo_at.0)))

    old : (j : ℕ) → (j ≡ k → ⊥) → get_or (set label k w) j 0 ≡ get_or label j 0
    old j z = get_or-set_other label k j w 0 z

    new : get_or (set label k w) k 0 ≡ w
    new = get_or-set_same label k w 0 m

    go : Dec (b ≡ at) → Chain link' (set label k w) key_limit b
    go (yes e) = record {
      keys = k ∷ a.keys;
      linked = rw (ap (λ (q : ℕ). get_or link' q 0) e ∙ here) (one {k = k} {xs = a.keys} (rw next (rest (get_or link at 0) (rw (ap (λ (q : ℕ). get_or link q 0) e) at a.linked))));
      nodup = ((λ i. (a.from k i).2 refl), a.nodup);
      from = λ j i. ⊎_elim (λ (u : j ≡ k). (omega arith, rw (u, new) (sym e), (λ z. omega arith)))
          (λ u. ((a.from j u).0, rw (old j (a.from j u).2) (a.from j u).1, (λ z. let g = (a.from j u).0 in omega arith))) i;
      into = λ j l g z. sort j l g (ℕ_discrete j k);
    }
      where
        sort : (j : ℕ) → j < key_limit → home (get_or (set label k w) j 0) ≡ b → Dec (j ≡ k) → In j (k ∷ a.keys)
        sort j l g (yes u) = inl u
        sort j l g (no u) = inr (a.into j l (rw (old j u) at g) u)
    go (no f) = record {
      keys = a.keys;
      linked = rw (other b (λ z. omega arith) f) (rest (get_or link b 0) a.linked);
      nodup = a.nodup;
      from = λ j u. ((a.from j u).0, rw (old j (a.from j u).2) (a.from j u).1, (λ z. let g = (a.from j u).0 in omega arith));
      into = λ j l g z. sort j l g (ℕ_discrete j k);
    }
      where
        sort : (j : ℕ) → j < key_limit → home (get_or (set label k w) j 0) ≡ b → Dec (j ≡ k) → In j a.keys
        sort j l g (yes u) = absurd (f (sym g ∙ ap home (ap (λ (q : ℕ). get_or (set label k w) q 0) u ∙ new)))
        sort j l g (no u) = a.into j l (rw (old j u) at g) u

-- a key gets another label
pub relinked_chains : (link label : List ℕ) (k w : ℕ) → link_length ≤ length link → k < key_limit → k < length label → Chains link label key_limit
    → Chains (relinked link label k w) (set label k w) key_limit
unfolding relinked
relinked_chains link label k w n h m c = let t = taken_chains link label k n h c in
    pushed_chains (taken link label k) label k w (omega (arith, t.1)) h m t.0

-- does the chain from the link x on have m keys
unfoldable pub longer : List ℕ → ℕ → ℕ → Bool
longer link zero x = true
longer link (suc m) zero = false
longer link (suc m) (suc k) = longer link m (get_or link (k % key_limit) 0)

pub longer_yes : (link : List ℕ) (m x : ℕ) (xs : List ℕ) → Linked link x xs → ((k : ℕ) → In k xs → k < key_limit) → m ≤ length xs → longer link m x ≡ true
unfolding longer
longer_yes link zero x xs l b h = refl
longer_yes link (suc m) x xs end b h = absurd (omega arith)
longer_yes link (suc m) x xs (one {k = k} {xs = ys} l) b h =
    let e : k % key_limit ≡ k = mod-eq_of_lt (b k (inl refl)) in rw e (longer_yes link m (get_or link k 0) ys l (λ j i. b j (inr i)) (omega arith))

pub longer_no : (link : List ℕ) (m x : ℕ) (xs : List ℕ) → Linked link x xs → ((k : ℕ) → In k xs → k < key_limit) → length xs < m → longer link m x ≡ false
unfolding longer
longer_no link zero x xs l b h = absurd (omega arith)
longer_no link (suc m) x xs end b h = refl
longer_no link (suc m) x xs (one {k = k} {xs = ys} l) b h =
    let e : k % key_limit ≡ k = mod-eq_of_lt (b k (inl refl)) in rw e (longer_no link m (get_or link k 0) ys l (λ j i. b j (inr i)) (omega arith))
