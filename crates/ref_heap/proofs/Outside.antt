-- How what is held outside of blocks changes.
use Rattle.std.proofs.Common.{◌≡◌, ◌≢◌, ℕ, zero, suc, ◌+◌, ◌-◌, ◌≤◌, Bool, true, false, cond, List, [], ◌∷◌, Option, Some, None, refl, sym, ap, ◌∙◌, arith, inl, inr}
use Rattle.std.specs.Prelude.{map, slice_get, slice_set, Result, Ok, Err, OnOk}
use Rattle.std.proofs.lemmas.Bool.Decides.{eqb_tells}
use Rattle.ref_heap.specs.declared.kind.Kind.{Kind}
use Rattle.ref_heap.specs.declared.kind.HeapFault.{HeapFault}
use Rattle.ref_heap.specs.declared.kind.HeapFault.TheVariants.{Dead}
use Rattle.ref_heap.specs.Words.{Cell, plain, refer, in_block, in_frame, Content, wide, compact, cells, naming, with_cell, is_reference}
use Rattle.ref_heap.specs.Answers.{hold_answer, set_answer, fits_there, fits}
use Rattle.ref_heap.specs.Store.{Store, Block, words_of, count, count_in, names, naming_in, one, alone, word_in, IsHeap, AreHeld, at, limit, inside, outside, with_block, with_new, with_content, fresh, one_more}
use Rattle.ref_heap.specs.Drops.{Drops, Reuses}
use Rattle.ref_heap.proofs.Steps.{names_changed}
use Rattle.ref_heap.proofs.Naming.{naming_cons, plain_names}
use Rattle.ref_heap.proofs.View.{heap_after}
use Rattle.ref_heap.proofs.Put.{at_with_block, none_there, naming_set}

pub one_same : (k n : ℕ) → k ≡ n → one k n ≡ 1
one_same k n e = elim (eqb_tells k n) [ inl y ↦ ap (λ b. cond {A = ℕ} b 1 0) y.0 | inr y ↦ absurd (y.1 e) ]

pub one_other : (k n : ℕ) → k ≢ n → one k n ≡ 0
one_other k n e = elim (eqb_tells k n) [ inl y ↦ absurd (e y.1) | inr y ↦ ap (λ b. cond {A = ℕ} b 1 0) y.0 ]

-- a block is put in place of another
put_inside : (h : Store) (k : ℕ) (b b' : Block) (n : ℕ) → IsHeap h → at h k ≡ Some b → inside (with_block h k b') n + naming (words_of b) n ≡ inside h n + naming (words_of b') n
put_inside h k b b' n ok is =
    let q = ok.bounded k b is in
    let e : inside (with_block h k b') n + naming_in (at h k) n ≡ inside h n + naming (words_of b') n = names_changed (limit h) (at h) (at (with_block h k b')) k (Some b') n q (at_with_block h k b') in
    let f : naming_in (at h k) n ≡ naming (words_of b) n = ap (λ v. naming_in v n) is in
    omega arith

put_count : (h : Store) (k : ℕ) (b b' : Block) (n : ℕ) → at h k ≡ Some b → b'.count ≡ b.count → count (at (with_block h k b')) n ≡ count (at h) n
put_count h k b b' n is same = elim (eqb_tells n k) [
  | inl z ↦ ap (count (at (with_block h k b'))) z.1 ∙ ap count_in (at_with_block h k b').here ∙ same ∙ sym (ap (count (at h)) z.1 ∙ ap count_in is)
  | inr z ↦ ap count_in ((at_with_block h k b').apart n z.1)
]

-- one more reference
pub more_outside : (h : Store) (k : ℕ) (b : Block) (n : ℕ) → IsHeap h → at h k ≡ Some b → outside (with_block h k (one_more b)) n ≡ outside h n + one k n
more_outside h k b n ok is =
    let e = put_inside h k b (one_more b) n ok is in
    let f : inside h n ≤ count (at h) n = ok.enough n in
    elim (eqb_tells k n) [
      | inl z ↦
          let i : one k n ≡ 1 = one_same k n z.1 in
          let u : count (at (with_block h k (one_more b))) n ≡ b.count + 1 = ap (count (at (with_block h k (one_more b)))) (sym z.1) ∙ ap count_in (at_with_block h k (one_more b)).here in
          let v : count (at h) n ≡ b.count = ap (count (at h)) (sym z.1) ∙ ap count_in is in
          omega arith
      | inr z ↦
          let i : one k n ≡ 0 = one_other k n z.1 in
          let u : count (at (with_block h k (one_more b))) n ≡ count (at h) n = ap count_in ((at_with_block h k (one_more b)).apart n (λ y. z.1 (sym y))) in
          omega arith
    ]

-- `hold`
pub hold_outside : (r : Result (Unit {0}) HeapFault) (h h' : Store) (k : ℕ) → IsHeap h → r ≡ hold_answer (at h k)
    → ((b : Block) → at h k ≡ Some b → OnOk r (h' ≡ with_block h k (one_more b))) → OnOk r ((n : ℕ) → outside h' n ≡ outside h n + one k n)
hold_outside (Err x) h h' k ok ans step = tt
hold_outside (Ok x) h h' k ok ans step = go (at h k) refl
  where
    go : (o : Option Block) → at h k ≡ o → (n : ℕ) → outside h' n ≡ outside h n + one k n
    go None e n = absurd (let f : Ok x ≡ Err Dead = ans ∙ ap hold_answer e in cc)
    go (Some b) e n = ap (λ (v : Store). outside v n) (step b e) ∙ more_outside h k b n ok e

-- `append`, `widen`
pub content_outside : (r : Result (Unit {0}) HeapFault) (h h' : Store) (k : ℕ) (g : Content → Content) → ((c : Content) (q : ℕ) → naming (cells (g c)) q ≡ naming (cells c) q)
    → IsHeap h → (at h k ≡ None → r ≡ Err Dead)
    → ((b : Block) → at h k ≡ Some b → OnOk r (h' ≡ with_block h k (with_content b (g b.content)))) → OnOk r ((n : ℕ) → outside h' n ≡ outside h n)
content_outside (Err x) h h' k g same ok dead step = tt
content_outside (Ok x) h h' k g same ok dead step = go (at h k) refl
  where
    go : (o : Option Block) → at h k ≡ o → (n : ℕ) → outside h' n ≡ outside h n
    go None e n = absurd (let f : Ok x ≡ Err Dead = dead e in cc)
    go (Some b) e n =
        let w = with_content b (g b.content) in
        let i = put_inside h k b w n ok e in
        let c = put_count h k b w n e refl in
        let m = same b.content n in
        let o : outside h' n ≡ outside (with_block h k w) n = ap (λ (v : Store). outside v n) (step b e) in
        omega arith

-- what the old word named and what the new one names, where it may stand there
set_parts : (v : Content) (i : ℕ) (c : Cell) (x : Unit {0}) (n : ℕ) → Ok x ≡ fits_there (slice_get (cells v) i) c
    → naming (cells (with_cell v i c)) n + naming (alone (slice_get (cells v) i)) n ≡ naming (cells v) n + naming (c ∷ []) n
set_parts v i c x n ans = go (slice_get (cells v) i) refl
  where
    plain_at : (ns : List ℕ) (i : ℕ) (a : Cell) → slice_get (map plain ns) i ≡ Some a → is_reference a ≡ false
    plain_at [] i a e = absurd cc
    plain_at (y ∷ ys) zero a e = (let f : plain y ≡ a = cc in ap is_reference (sym f))
    plain_at (y ∷ ys) (suc i) a e = plain_at ys i a e

    not_there : (a : Cell) (r : Option ℕ) → is_reference a ≡ false → Ok x ≡ fits_there (Some a) (refer r) → ⊥
    not_there a r f e = (let g : Ok x ≡ fits false true = e ∙ ap (λ (b : Bool). fits b true) f in cc)

    none_named : (a : Cell) → is_reference a ≡ false → naming (a ∷ []) n ≡ 0
    none_named (plain y) e = naming_cons (plain y) [] n ∙ omega arith
    none_named (refer r) e = absurd cc
    none_named (in_block s y) e = naming_cons (in_block s y) [] n ∙ omega arith
    none_named (in_frame s y) e = naming_cons (in_frame s y) [] n ∙ omega arith

    kept : (ns : List ℕ) (a c : Cell) → is_reference a ≡ false → is_reference c ≡ false → naming (map plain ns) n + naming (a ∷ []) n ≡ naming (map plain ns) n + naming (c ∷ []) n
    kept ns a c e f = omega (arith, none_named a e, none_named c f)

    in_content : (v : Content) (a c : Cell) → slice_get (cells v) i ≡ Some a → Ok x ≡ fits_there (Some a) c → naming (cells (with_cell v i c)) n + naming (a ∷ []) n ≡ naming (cells v) n + naming (c ∷ []) n
    in_content (wide words) a c e g = (let f = naming_set words i c a n e in let p = naming_cons a [] n in let q = naming_cons c [] n in omega arith)
    in_content (compact ns) a (plain y) e g =
        (let f = plain_names (slice_set ns i y) n in let p = plain_names ns n in let q = none_named a (plain_at ns i a e) in let q' = none_named (plain y) refl in omega arith)
    in_content (compact ns) a (refer r) e g = absurd (not_there a r (plain_at ns i a e) g)
    in_content (compact ns) a (in_block s y) e g = kept ns a (in_block s y) (plain_at ns i a e) refl
    in_content (compact ns) a (in_frame s y) e g = kept ns a (in_frame s y) (plain_at ns i a e) refl

    go : (o : Option Cell) → slice_get (cells v) i ≡ o → naming (cells (with_cell v i c)) n + naming (alone (slice_get (cells v) i)) n ≡ naming (cells v) n + naming (c ∷ []) n
    go None e = absurd (let f : Ok x ≡ fits_there None c = ans ∙ ap (λ (o : Option Cell). fits_there o c) e in cc)
    go (Some a) e =
        let f = in_content v a c e (ans ∙ ap (λ (o : Option Cell). fits_there o c) e) in
        let g : naming (alone (slice_get (cells v) i)) n ≡ naming (a ∷ []) n = ap (λ (o : Option Cell). naming (alone o) n) e in
        omega arith

-- `set_word`
pub set_outside : (r : Result (Unit {0}) HeapFault) (h h' : Store) (k i : ℕ) (c : Cell) → IsHeap h → AreHeld h (naming (c ∷ [])) → r ≡ set_answer (at h k) i c
    → ((b : Block) → at h k ≡ Some b → OnOk r (h' ≡ with_block h k (with_content b (with_cell b.content i c))))
    → OnOk r ((n : ℕ) → outside h' n + naming (c ∷ []) n ≡ outside h n + naming (word_in (at h k) i) n)
set_outside (Err x) h h' k i c ok held ans step = tt
set_outside (Ok x) h h' k i c ok held ans step = go (at h k) refl
  where
    go : (o : Option Block) → at h k ≡ o → (n : ℕ) → outside h' n + naming (c ∷ []) n ≡ outside h n + naming (word_in (at h k) i) n
    go None e n = absurd (let f : Ok x ≡ Err Dead = ans ∙ ap (λ (o : Option Block). set_answer o i c) e in cc)
    go (Some b) e n =
        let w = with_content b (with_cell b.content i c) in
        let p = put_inside h k b w n ok e in
        let q = put_count h k b w n e refl in
        let s = set_parts b.content i c x n (ans ∙ ap (λ (o : Option Block). set_answer o i c) e) in
        let o : outside h' n ≡ outside (with_block h k w) n = ap (λ (v : Store). outside v n) (step b e) in
        let l = held n in
        let f = ok.enough n in
        let g : naming (word_in (at h k) i) n ≡ naming (alone (slice_get (cells b.content) i)) n = ap (λ (o : Option Block). naming (word_in o i) n) e in
        omega arith

-- what is given away in a drop
pub drop_outside : (h h' : Store) (given : ℕ → ℕ) → h'.made ≡ h.made → AreHeld h given → Drops h h' given → (n : ℕ) → outside h' n + given n ≡ outside h n
drop_outside h h' given same held d n =
    let x : count (at h') n ≡ (outside h n - given n) + names (limit h) (at h') n = d.settled.exact n in
    let y : inside h' n ≡ names (limit h) (at h') n = ap (λ m. names m (at h') n) same in
    let l : given n ≤ outside h n = held n in
    omega arith

-- a block is made
pub new_outside : (h : Store) (kind : Kind) (content : Content) → IsHeap h → AreHeld h (naming (cells content)) → (n : ℕ)
    → outside (with_new h (fresh kind content)) n + naming (cells content) n ≡ outside h n + one h.made n
new_outside h kind content ok held n =
    let b = fresh kind content in
    let k = h.made in
    let g : Store = record h { made = h.made + 1 } in
    let h' = with_new h b in
    let none : at h k ≡ None = none_there h ok in
    let e : inside h' n + naming_in (at g k) n ≡ inside g n + naming (cells content) n = names_changed (limit g) (at g) (at h') k (Some b) n (omega arith) (at_with_block g k b) in
    let f : naming_in (at h k) n ≡ 0 = ap (λ v. naming_in v n) none in
    let x : names (suc k) (at h) n ≡ naming_in (at h k) n + names k (at h) n = refl in
    let z : names (k + 1) (at h) n ≡ names (suc k) (at h) n = (let y : k + 1 ≡ suc k = omega arith in ap (λ m. names m (at h) n) y) in
    let l : naming (cells content) n ≤ outside h n = held n in
    let m : inside h n ≤ count (at h) n = ok.enough n in
    elim (eqb_tells k n) [
      | inl y ↦
          let i : one k n ≡ 1 = one_same k n y.1 in
          let u : count (at h') n ≡ 1 = ap (count (at h')) (sym y.1) ∙ ap count_in (at_with_block g k b).here in
          let v : count (at h) n ≡ 0 = ap (count (at h)) (sym y.1) ∙ ap count_in none in
          omega arith
      | inr y ↦
          let i : one k n ≡ 0 = one_other k n y.1 in
          let u : count (at h') n ≡ count (at h) n = ap count_in ((at_with_block g k b).apart n (λ z. y.1 (sym z))) in
          omega arith
    ]

-- the same of a block that names nothing
pub bare_outside : (h h' : Store) (kind : Kind) (content : Content) → h' ≡ with_new h (fresh kind content) → IsHeap h → ((n : ℕ) → naming (cells content) n ≡ 0) → (n : ℕ)
    → outside h' n ≡ outside h n + one h.made n
bare_outside h h' kind content e ok none n =
    let a = new_outside h kind content ok (λ q. omega (arith, none q)) n in
    let f : outside h' n ≡ outside (with_new h (fresh kind content)) n = ap (λ (v : Store). outside v n) e in
    omega (arith, none n)

-- a block is dropped, and another made
pub reuse_outside : (h h' : Store) (k : ℕ) (kind : Kind) (content : Content) → IsHeap h → AreHeld h (one k) → Reuses h h' k (fresh kind content) → ((n : ℕ) → naming (cells content) n ≡ 0) → (n : ℕ)
    → outside h' n + one k n ≡ outside h n + one h.made n
reuse_outside h h' k kind content ok held r none n =
    let a = drop_outside h r.middle (one k) r.made held r.drops n in
    let b = bare_outside r.middle h' kind content r.makes (heap_after h r.middle (one k) ok r.made r.drops) none n in
    let e : one r.middle.made n ≡ one h.made n = ap (λ (m : ℕ). one m n) r.made in
    omega arith
