-- SCOPE.md, 'The relations themselves' and 'The solver's record', for a question that is one variable: every stored
-- term is an instance of it, and the record has one field, whose value is the stored term's own bytes. So a caller
-- reads a store back.
use Prim.Native.Nat.{ℕ, zero, suc, ◌+◌, ◌-◌, ◌*◌, ◌/◌, ◌%◌, ◌≤◌, ◌<◌}
use Rattle.std.proofs.Math.Decide.{ℕ_discrete}
use native.Mathlib.Omega.{arith}
use Rattle.std.specs.Prelude.{◌≡◌, ◌≢◌, ◌↔◌}
use Rattle.std.proofs.Math.Path.{refl, ap}
use Rattle.std.proofs.Common.{sym, ◌∙◌, inl}
use Rattle.std.proofs.Math.Option.{some}
use mathlib.Core.List.{List, [], ◌∷◌, append-nil}
use Rattle.std.proofs.Math.ListN.{length, get_or-eq_default}
use borrow.Author.Tests.{lt-ltb, le-ltb, le-leb, eq-eqb}
use Rattle.laws.specs.Members.{In}
use Rattle.laws.specs.Sizes.{value_limit, variable_base, variable_end}
use Rattle.terms.specs.Terms.{arity, numbers, span, declared, items_good, refusal}
use Rattle.terms.proofs.TermLaws.{signed}
use Rattle.theory.specs.Flat.{Item}
use Rattle.theory.specs.Subst.{vars, app, Occurs}
use Rattle.theory.specs.Unify.{◌:=◌, one, one_same, one_other, one_sub, app_one_free}
use Rattle.theory.specs.Canon.{Least, Mgu}
use Rattle.theory.specs.Items.{number_item, moved_none, codes, items, length_items, shift, Fine}
use Rattle.theory.specs.Matcher.{items?}
use Rattle.theory.specs.CheckedItems.{fine}
use Rattle.definitions.specs.Relations.{Stands}
use Rattle.definitions.specs.Decisions.{stands}
use Rattle.definitions.specs.Records.{Unifier, unless_decided, listed_from, listed_bindings, bytes, field_bytes}
use Rattle.definitions.specs.Records.{written_fields, record_of, count_of, Short, IsRecord}
use Rattle.definitions.specs.ReadBack.{read_fields, read_count, Octets, term_below}
use Rattle.definitions.specs.Answers.{found, solved}
use Rattle.library.specs.Store.{Store, holding, retrieve, solve, candidates, answers, answered}
use Rattle.library.specs.Sound.{Sound}
use Rattle.library.specs.Longest.{listing_most, slots_room}
use Rattle.library.specs.Readable.{answers_are, solve_writes}

-- the question, 0x8000 + v
abbrev pub variable_question : ℕ → List ℕ
variable_question v = 128 ∷ v ∷ []

-- the record: the tag, the length in two bytes, the question's variable as written, the stored term's bytes
abbrev pub term_record : ℕ → List ℕ → List ℕ
term_record v t = 16 ∷ 0 ∷ (2 + length t) ∷ 128 ∷ (32 + v) ∷ t

pub question_checked : (sig : List ℕ) → length sig ≤ 256 → (v : ℕ) → v < 32 → refusal sig (variable_question v) ≡ 0
unfolding refusal items_good declared span
question_checked sig b v l =
    let x = 128 * 256 + v in
    let m : length sig ≤ x = omega arith in
    let n : variable_base ≤ x = omega arith in
    let k : x < variable_end = omega arith in
    let z : arity sig x ≡ 0 = get_or-eq_default sig 0 m in
    rw (le-ltb x (length sig) m, le-leb variable_base x n, lt-ltb x variable_end k, z)

pub question_items : (v : ℕ) → items (variable_question v) ≡ vars v
unfolding codes numbers
question_items v =
    let x = 128 * 256 + v in
    let n : variable_base ≤ x = omega arith in
    let e : x - variable_base ≡ v = omega arith in
    rw (moved_none x, le-ltb x variable_base n, e)

-- a substitution that changes one variable lists that variable
module _ (θ : ℕ → List Item) (z : ℕ) (n : θ z ≢ vars z) (other : (x : ℕ) → x ≢ z → θ x ≡ vars x) where
  none_listed : (k y : ℕ) → z < y → listed_from θ k y ≡ []
  unfolding listed_from
  none_listed zero y l = refl
  none_listed (suc k) y l = go (items? (θ y) (vars y)) (none_listed k (y + 1) (omega arith))
    where
      go : (d : Dec (θ y ≡ vars y)) → listed_from θ k (y + 1) ≡ [] → unless_decided d (y := θ y) (listed_from θ k (y + 1)) ≡ []
      go (yes e) ih = ih
      go (no f) ih = absurd (f (other y (λ e. omega arith)))

  one_listed : (k y : ℕ) → y ≤ z → z < y + k → listed_from θ k y ≡ (z := θ z) ∷ []
  unfolding listed_from
  one_listed zero y a b = absurd (omega arith)
  one_listed (suc k) y a b = go (items? (θ y) (vars y)) (ℕ_discrete y z) (λ c. one_listed k (y + 1) c (omega arith))
    where
      go : (d : Dec (θ y ≡ vars y)) → Dec (y ≡ z) → (y + 1 ≤ z → listed_from θ k (y + 1) ≡ (z := θ z) ∷ [])
          → unless_decided d (y := θ y) (listed_from θ k (y + 1)) ≡ (z := θ z) ∷ []
      go (yes e) (yes p) ih = absurd (n (rw (← p) e))
      go (yes e) (no p) ih = ih (omega (arith, p))
      go (no f) (yes p) ih = rw (none_listed k (y + 1) (omega arith), p)
      go (no f) (no p) ih = absurd (f (other y p))

-- the bytes of a term's items are the term's bytes
pub bytes_items : (t : List ℕ) → Octets t → length t % 2 ≡ 0 → bytes (items t) ≡ t
unfolding bytes codes numbers
bytes_items [] o e = refl
bytes_items (h ∷ []) o e = absurd (omega arith)
bytes_items (h ∷ l ∷ r) o e =
    let a : (h * 256 + l) / 256 ≡ h = omega (arith, o.1.0) in
    let b : (h * 256 + l) % 256 ≡ l = omega (arith, o.1.0) in
    rw (moved_none (h * 256 + l), number_item (h * 256 + l), a, b, bytes_items r o.1.1 (omega arith))

module _ (sig t : List ℕ) (ft : Fine sig t) (v : ℕ) where
  -- the unifier: the question's variable becomes the stored term
  abbrev value : ℕ → List Item
  value = one (32 + v) (items t)

  outside : (x : ℕ) → 32 ≤ x → ¬ Occurs x (items t)
  outside x l i = omega (arith, l, term_below sig t ft x i)

  value_other : (x : ℕ) → x ≢ 32 + v → value x ≡ vars x
  value_other x n = one_other (32 + v) (items t) x (λ e. n (sym e))

  value_changes : value (32 + v) ≢ vars (32 + v)
  value_changes e =
      let f : items t ≡ vars (32 + v) = sym (one_same (32 + v) (items t)) ∙ e in
      outside (32 + v) (omega arith) (rw f (inl refl))

  value_mgu : Mgu (arity sig) (items t) (vars (32 + v)) value
  value_mgu = record {
    sub = one_sub (arity sig) (32 + v) (items t) ft.term;
    unifies = app_one_free (32 + v) (items t) (items t) (outside (32 + v) (omega arith)) ∙ sym (append-nil _ ∙ one_same (32 + v) (items t));
    general = λ σ w e x. go σ e x (ℕ_discrete x (32 + v));
  }
    where
      go : (σ : ℕ → List Item) → app σ (items t) ≡ app σ (vars (32 + v)) → (x : ℕ) → Dec (x ≡ 32 + v) → app σ (value x) ≡ σ x
      go σ e x (yes p) = ap (λ y. app σ (value y)) p ∙ ap (app σ) (one_same (32 + v) (items t)) ∙ e ∙ append-nil _ ∙ ap σ (sym p)
      go σ e x (no n) = ap (app σ) (value_other x n) ∙ append-nil _

  value_least : Least value
  value_least x y e = go (ℕ_discrete x (32 + v))
    where
      go : Dec (x ≡ 32 + v) → y ≤ x
      go (yes p) =
          let f : items t ≡ vars y = sym (one_same (32 + v) (items t)) ∙ ap value (sym p) ∙ e in
          omega (arith, p, term_below sig t ft y (rw f (inl refl)))
      go (no n) = let f : vars x ≡ vars y = sym (value_other x n) ∙ e in let g : x ≡ y = cc in omega arith

  value_short : Short value
  value_short x b = go (ℕ_discrete x (32 + v))
    where
      go : Dec (x ≡ 32 + v) → length (value x) ≤ value_limit
      go (yes p) = rw (p, one_same (32 + v) (items t)) (omega (arith, length_items t, ft.short))
      go (no n) = rw (value_other x n) (omega arith)

  unifier : Unifier sig (items t) (shift 32 (items (variable_question v))) value
  unifier = rw (question_items v) (record { mgu = value_mgu; least = value_least })

  value_listed : v < 32 → listed_bindings value ≡ ((32 + v) := items t) ∷ []
  value_listed l = one_listed value (32 + v) value_changes value_other 64 0 (omega arith) (omega arith) ∙ ap (λ u. ((32 + v) := u) ∷ []) (one_same (32 + v) (items t))

  value_bytes_are : v < 32 → Octets t → record_of value ≡ 16 ∷ 0 ∷ (2 + length t) ∷ 128 ∷ (32 + v) ∷ t
  unfolding record_of written_fields field_bytes bytes
  value_bytes_are l o =
      let a : suc (suc (length t)) / 256 ≡ 0 = omega (arith, ft.short) in
      let b : suc (suc (length t)) % 256 ≡ 2 + length t = omega (arith, ft.short) in
      let c : (variable_base + (32 + v)) / 256 ≡ 128 = omega arith in
      let d : (variable_base + (32 + v)) % 256 ≡ 32 + v = omega arith in
      rw (value_listed l, bytes_items t o ft.even, c, d, append-nil t, a, b)

  value_bytes_lem : v < 32 → Octets t → record_of value ≡ term_record v t
  value_bytes_lem l o = value_bytes_are l o

  value_count : v < 32 → count_of value ≡ 1
  unfolding count_of
  value_count l = ap length (value_listed l)

module _ (st : Store) (h : Sound st) (v : ℕ) (b : v < 32) where
  pub variable_checked : refusal st.signature (variable_question v) ≡ 0
  variable_checked = question_checked st.signature (signed st.signature h.signed).short v b

  -- solve writes the stored term
  pub solve_term : (s : ℕ) (t : List ℕ) → st.held s ≡ some t → Octets t → (room : ℕ) → 5 + length t ≤ room
      → answered st (solve s (variable_question v) room) ≡ solved 1 (term_record v t)
  solve_term s t e o room l =
      solve_writes st h s t e (variable_question v) variable_checked room (term_record v t) is (value_short sig t ft v) (omega (arith, l))
      ∙ ap (λ n. solved n (term_record v t)) count
    where
      sig : List ℕ
      sig = st.signature

      ft : Fine sig t
      ft = fine sig t h.signed (h.checked s t e)

      fq : Fine sig (variable_question v)
      fq = fine sig (variable_question v) h.signed variable_checked

      is : IsRecord sig t (variable_question v) (term_record v t)
      is = record { by = value sig t ft v; unifier = unifier sig t ft v; is = sym (value_bytes_are sig t ft v b o) }

      count : length (read_fields (term_record v t)) ≡ 1
      count =
          ap (λ w. length (read_fields w)) (sym (value_bytes_are sig t ft v b o))
          ∙ sym (read_count sig t (variable_question v) ft fq (value sig t ft v) (unifier sig t ft v))
          ∙ value_count sig t ft v b

  -- 2, instance: every stored term is one
  pub stored_instance : (s : ℕ) (t : List ℕ) → st.held s ≡ some t → Stands st.signature 2 t (variable_question v)
  stored_instance s t e = record {
    by = λ x. items t;
    sub = λ x. (fine st.signature t h.signed (h.checked s t e)).term;
    turns = ap (app (λ x. items t)) (question_items v) ∙ append-nil (items t);
  }

  pub instances_all : (s : ℕ) → In s (answers st 2 (variable_question v)) ↔ ((t : List ℕ) × (st.held s ≡ some t))
  instances_all s =
      let a = answers_are st h 2 (variable_question v) variable_checked s in
      ((λ i. (let w = a.0 i in (w.0, w.1))), (λ w. a.1 (w.0, w.1, stored_instance s w.0 w.1)))

  -- and where there is room for every listing they are answered
  pub instances_answered : (room : ℕ) → listing_most ≤ room
      → answered st (retrieve 2 (variable_question v) room)
      ≡ found (length (candidates st 2 (variable_question v))) (answers st 2 (variable_question v))
  unfolding answered answers
  instances_answered room l =
      let m : 2 * length (answers st 2 (variable_question v)) ≤ room = omega (arith, slots_room (λ s. holding (λ t. stands st.signature 2 t (variable_question v)) (st.held s)), l) in
      rw (eq-eqb (refusal st.signature (variable_question v)) 0 variable_checked, le-ltb room (2 * length (answers st 2 (variable_question v))) m)
