-- Strings that are edited in place, and become the next block.
use Rattle.std.proofs.Common.{◌≡◌, ℕ, zero, suc, ◌+◌, ◌-◌, ◌<◌, Bool, true, false, List, [], ◌∷◌, ◌++◌, map, length, Some, None, Ok, ◌⊎◌, inl, inr, refl, sym, ap, ◌∙◌, subst, arith}
use Rattle.std.specs.Prelude.{◌==◌, if◌then◌else◌, slice_get, slice_set, Result, Err, IfOk, OnErr, OnOk}
use Rattle.std.proofs.lemmas.Bool.{cases_eq, eqb-true}
use Rattle.std.proofs.lemmas.List.{length-map}
use Rattle.ref_heap.specs.Answers.{answer_for, fits_there, set_answer}
use Rattle.ref_heap.specs.Slots.{Changed}
use Rattle.ref_heap.specs.Store.{Block, Store, IsHeap, IsSole, at, alone, count, count_in, inside, one, outside, with_block, with_content, with_new, without_block, word_in, words_of}
use Rattle.ref_heap.specs.Words.{cells, compact, naming, plain}
use Rattle.ref_heap.proofs.Put.{at_with_block}
use Rattle.ref_heap.proofs.Renew.{at_without}
use Rattle.dis_memory.specs.Strings.{with_character}
use Rattle.dis_places.specs.Blocks.{is_proper, AreProper}
use Rattle.ref_heap.specs.declared.kind.HeapFault.{HeapFault}
use Rattle.ref_heap.specs.declared.word.Ref.{Ref}
use Rattle.dis_places.specs.declared.fault.Halt.{Halt}
use Rattle.dis_strings.specs.Renewing.{HasText, IsAnew, IsEdited}

plain_fits : (s : List ℕ) (i c : ℕ) → i < length s → fits_there (slice_get (map plain s) i) (plain c) ≡ Ok tt
plain_fits [] i c lt = absurd (omega (arith, lt))
plain_fits (x ∷ xs) zero c lt = refl
plain_fits (x ∷ xs) (suc i) c lt = plain_fits xs i c (omega (arith, lt))

-- A character may be put over another.
pub text_takes : (h : Store) (k : ℕ) (s : List ℕ) (i c : ℕ) → HasText h k s → i < length s → set_answer (at h k) i (plain c) ≡ Ok tt
text_takes h k s i c t lt =
    ap (λ o. set_answer o i (plain c)) t.live ∙ ap (λ ct. fits_there (slice_get (cells ct) i) (plain c)) t.content ∙ plain_fits s i c lt

plain_names_none : (s : List ℕ) (i n : ℕ) → naming (alone (slice_get (map plain s) i)) n ≡ 0
plain_names_none [] i n = refl
plain_names_none (x ∷ xs) zero n = refl
plain_names_none (x ∷ xs) (suc i) n = plain_names_none xs i n

pub text_names_none : (h : Store) (k : ℕ) (s : List ℕ) (i n : ℕ) → HasText h k s → naming (word_in (at h k) i) n ≡ 0
text_names_none h k s i n t =
    ap (λ o. naming (word_in o i) n) t.live ∙ ap (λ ct. naming (alone (slice_get (cells ct) i)) n) t.content ∙ plain_names_none s i n

pub text_long : (h : Store) (k : ℕ) (s : List ℕ) → HasText h k s → answer_for (λ b. length (words_of b)) (at h k) ≡ Ok (length s)
text_long h k s t =
    ap (answer_for (λ b. length (words_of b))) t.live ∙ ap (λ ct. Ok (length (cells ct))) t.content ∙ ap Ok (length-map s plain)

-- A character that doesn't come behind the last one.
pub with_apart : (s : List ℕ) (k c : ℕ) → (k ≡ length s → ⊥) → with_character s k c ≡ slice_set s k c
with_apart s k c ne = go (k == length s) refl
  where
    go : (b : Bool) → (k == length s) ≡ b → (if b then s ++ c ∷ [] else slice_set s k c) ≡ slice_set s k c
    go true e = absurd (ne (eqb-true k (length s) e))
    go false e = refl

module _ (h h1 : Store) (k : ℕ) (s t : List ℕ) (e : IsEdited h h1 k s t) where
  abbrev pub now : Block
  now = with_content e.before.block (compact t)

  pub edited_live : at h1 k ≡ Some now
  edited_live = ap (λ h. at h k) e.is ∙ (at_with_block h k now).here

  -- The only reference to it is held still.
  pub edited_sole : IsSole h k → IsSole h1 k
  edited_sole sole =
      let same : Some sole.block ≡ Some e.before.block = sym sole.live ∙ e.before.live in
      let is : sole.block ≡ e.before.block = cc in
      let only : e.before.block.count ≡ 1 = ap (λ (b : Block). b.count) (sym is) ∙ sole.only in
      let was : count (at h) k ≡ 1 = ap count_in e.before.live ∙ only in
      let are : count (at h1) k ≡ 1 = ap count_in edited_live ∙ only in
      let a : outside h k ≡ count (at h) k - inside h k = refl in
      let b : outside h1 k ≡ count (at h1) k - inside h1 k = refl in
      let c = e.outside k in
      let d = sole.unnamed in
      record { block = now; live = edited_live; only = only; unnamed = omega (arith, a, b, c, d, was, are) }

  pub edited_made : h1.made ≡ h.made
  edited_made = ap (λ (h : Store). h.made) e.is

  -- It becomes the next block.
  pub edited_anew : (h2 : Store) (k' : ℕ) → k' ≡ h1.made → h2 ≡ with_new (without_block h1 k) now → ((n : ℕ) → outside h2 n + one k n ≡ outside h1 n + one k' n) →
      IsAnew h h2 k k' s t
  edited_anew h2 k' serial is out = record {
    before = e.before;
    serial = serial ∙ edited_made;
    is = is ∙ ap (λ h. with_new (without_block h k) now) e.is;
    outside = λ n. let a = out n in let b = e.outside n in omega (arith, a, b);
  }

  edited_proper : AreProper h → AreProper h1
  edited_proper p n b is = go (cases_eq n k)
    where
      here : at (with_block h k now) n ≡ Some b
      here = sym (ap (λ h. at h n) e.is) ∙ is

      go : (n ≡ k) ⊎ (n ≡ k → ⊥) → is_proper b.kind b.content ≡ true
      go (inl same) =
          let a : Some b ≡ Some now = sym here ∙ ap (at (with_block h k now)) same ∙ (at_with_block h k now).here in let is : b ≡ now = cc in
          ap (λ (b : Block). is_proper b.kind b.content) is ∙ ap (λ k. is_proper k (compact t)) e.before.kind
      go (inr ne) = p n b (sym ((at_with_block h k now).apart n ne) ∙ here)

pub edited_keeps : (h h1 : Store) (k : ℕ) (s t : List ℕ) (r : Result (Unit {0}) Halt) → IfOk r (λ _. IsEdited h h1 k s t) → OnErr r (h1 ≡ h) → AreProper h → AreProper h1
edited_keeps h h1 k s t (Ok u) e f p = edited_proper h h1 k s t e p
edited_keeps h h1 k s t (Err halt) e f p = subst AreProper (sym f) p

-- ---- the next block

module _ (h h2 : Store) (k k' : ℕ) (s t : List ℕ) (e : IsAnew h h2 k k' s t) where
  abbrev pub next : Block
  next = with_content e.before.block (compact t)

  abbrev pub edited : Store
  edited = with_block h k next

  abbrev pub emptied : Store
  emptied = without_block edited k

  last : Changed (at emptied) (at (with_new emptied next)) h.made (Some next)
  last = at_with_block (record emptied { made = h.made + 1 }) h.made next

  pub anew_gone : IsHeap h → at h2 k ≡ None
  anew_gone ok =
      let below : k < h.made = ok.bounded k e.before.block e.before.live in
      ap (λ h. at h k) e.is ∙ last.apart k (λ same. omega (arith, same, below)) ∙ (at_without edited k).here

  pub anew_proper : AreProper h → AreProper h2
  anew_proper p n b is = go (cases_eq n h.made)
    where
      here : at (with_new emptied next) n ≡ Some b
      here = sym (ap (λ h. at h n) e.is) ∙ is

      go : (n ≡ h.made) ⊎ (n ≡ h.made → ⊥) → is_proper b.kind b.content ≡ true
      go (inl same) =
          let a : Some b ≡ Some next = sym here ∙ ap (at (with_new emptied next)) same ∙ last.here in let is : b ≡ next = cc in
          ap (λ (b : Block). is_proper b.kind b.content) is ∙ ap (λ k. is_proper k (compact t)) e.before.kind
      go (inr ne) = at_old (cases_eq n k)
        where
          left : at emptied n ≡ Some b
          left = sym (last.apart n ne) ∙ here

          at_old : (n ≡ k) ⊎ (n ≡ k → ⊥) → is_proper b.kind b.content ≡ true
          at_old (inl same) = let a : None ≡ Some b = sym (ap (at emptied) same ∙ (at_without edited k).here) ∙ left in absurd cc
          at_old (inr nk) = p n b (sym ((at_without edited k).apart n nk ∙ (at_with_block h k next).apart n nk) ∙ left)

-- Done or not, each block holds what its kind says.
pub anew_keeps : (h h2 : Store) (k : ℕ) (s t : List ℕ) (r : Result Ref Halt) → IfOk r (λ r. IsAnew h h2 k r.serial s t) → OnErr r (h2 ≡ h) → AreProper h → AreProper h2
anew_keeps h h2 k s t (Ok r) e f p = anew_proper h h2 k r.serial s t e p
anew_keeps h h2 k s t (Err halt) e f p = subst AreProper (sym f) p

module _ (h h3 : Store) (k : ℕ) (b : Block) (e : h3 ≡ with_new (without_block h k) b) (q : is_proper b.kind b.content ≡ true) where
  renewed : Changed (at (without_block h k)) (at (with_new (without_block h k) b)) h.made (Some b)
  renewed = at_with_block (record (without_block h k) { made = h.made + 1 }) h.made b

  renewed_proper : AreProper h → AreProper h3
  renewed_proper p n c is = go (cases_eq n h.made)
    where
      here : at (with_new (without_block h k) b) n ≡ Some c
      here = sym (ap (λ h. at h n) e) ∙ is

      go : (n ≡ h.made) ⊎ (n ≡ h.made → ⊥) → is_proper c.kind c.content ≡ true
      go (inl same) =
          let a : Some c ≡ Some b = sym here ∙ ap (at (with_new (without_block h k) b)) same ∙ renewed.here in let is : c ≡ b = cc in
          ap (λ (b : Block). is_proper b.kind b.content) is ∙ q
      go (inr ne) = at_old (cases_eq n k)
        where
          left : at (without_block h k) n ≡ Some c
          left = sym (renewed.apart n ne) ∙ here

          at_old : (n ≡ k) ⊎ (n ≡ k → ⊥) → is_proper c.kind c.content ≡ true
          at_old (inl same) = let a : None ≡ Some c = sym (ap (at (without_block h k)) same ∙ (at_without h k).here) ∙ left in absurd cc
          at_old (inr nk) = p n c (sym ((at_without h k).apart n nk) ∙ left)

pub renewed_keeps : (h h3 : Store) (k : ℕ) → IsSole h k → (r : Result Ref HeapFault) → ((b : Block) → at h k ≡ Some b → OnOk r (h3 ≡ with_new (without_block h k) b)) →
    OnErr r (h3 ≡ h) → AreProper h → AreProper h3
renewed_keeps h h3 k sole (Ok r) e f p = renewed_proper h h3 k sole.block (e sole.block sole.live) (p k sole.block sole.live) p
renewed_keeps h h3 k sole (Err fault) e f p = subst AreProper (sym f) p
