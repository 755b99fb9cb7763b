-- Words with references: read, held and put.
use Rattle.std.proofs.Common.{◌≡◌, ◌≢◌, ◌⊎◌, ℕ, zero, suc, ◌+◌, ◌<◌, ◌≤◌, Bool, true, false, cond, List, [], ◌∷◌, ◌++◌, take, drop}
use Rattle.std.proofs.Common.{length, get_or, Option, Some, None, refl, sym, ap, subst, ◌∙◌, arith, inl, inr}
use Rattle.std.specs.Prelude.{eqb, map, slice_get, slice_set, Result, Ok, Err}
use Rattle.std.proofs.lemmas.Bool.{cases_lt}
use Rattle.std.proofs.lemmas.Bool.Decides.{eqb_tells}
use Rattle.std.proofs.lemmas.List.{take-append-drop}
use Rattle.std.proofs.Math.Seq.{take-add}
use Rattle.ref_heap.specs.declared.word.Word.{Word}
use Rattle.ref_heap.specs.declared.kind.HeapFault.{HeapFault}
use Rattle.ref_heap.specs.declared.kind.HeapFault.TheVariants.{Full}
use Rattle.ref_heap.specs.Words.{Cell, Content, cells, cell_of, name_of, naming, refers, is_serial, is_reference, wide, with_cell, MayTake}
use Rattle.ref_heap.specs.Answers.{most, hold_answer, set_answer, fits_there, fits}
use Rattle.ref_heap.specs.Store.{Store, Block, AreHeld, at, count, count_in, one, outside, word_in, alone, with_block}
use Rattle.ref_heap.specs.Store.{with_content, one_more}
use Rattle.ref_heap.specs.Drops.{Drops, IsPart, IsSameBut, Lists}
use Rattle.dis_values.specs.References.{raised, Holds, HaveRoom, CanPut, Puts, Moves}
use Rattle.dis_values.proofs.Made.{naming_cons, block_there, other_block}
use Rattle.dis_values.proofs.Written.{put_same, put_twice, words_alike}

-- lists of words
pub naming_append : (xs ys : List Cell) (n : ℕ) → naming (xs ++ ys) n ≡ naming xs n + naming ys n
naming_append [] ys n = omega arith
naming_append (x ∷ xs) ys n = (let a = naming_cons x (xs ++ ys) n in let b = naming_cons x xs n in let c =
    naming_append xs ys n in omega arith)

pub naming_some : (xs : List Cell) (i n : ℕ) → naming (take i xs) n ≤ naming xs n
naming_some xs i n =
    let e : naming (take i xs ++ drop i xs) n ≡ naming xs n = ap (λ (cs : List Cell). naming cs n) (take-append-drop i xs) in
    let f = naming_append (take i xs) (drop i xs) n in
    omega arith

pub item_at : (ws : List Word) (i : ℕ) (d : Word) → i < length ws → slice_get (map cell_of ws) i ≡ Some (cell_of (get_or ws i d))
item_at [] i d h = absurd (omega arith)
item_at (w ∷ ws) zero d h = refl
item_at (w ∷ ws) (suc i) d h = item_at ws i d (omega arith)

pub take_next : (xs : List Cell) (i : ℕ) (c : Cell) → slice_get xs i ≡ Some c → take (i + 1) xs ≡ take i xs ++ c ∷ []
take_next [] i c e = absurd cc
take_next (x ∷ xs) zero c e = (let f : x ≡ c = cc in ap (λ (y : Cell). y ∷ []) f)
take_next (x ∷ xs) (suc i) c e =
    (let f : suc i + 1 ≡ suc (i + 1) = omega arith in ap (λ (k : ℕ). take k (x ∷ xs)) f)
    ∙ ap (λ (ys : List Cell). x ∷ ys) (take_next xs i c e)

pub get_cell_drop : (ws : List Cell) (x q : ℕ) → slice_get (drop x ws) q ≡ slice_get ws (x + q)
get_cell_drop ws zero q = (let e : q ≡ 0 + q = omega arith in ap (slice_get ws) e)
get_cell_drop [] (suc x) q = refl
get_cell_drop (w ∷ ws) (suc x) q = get_cell_drop ws x q ∙ (let e : suc (x + q) ≡ suc x + q = omega arith in ap (slice_get (w ∷ ws)) e)

pub cell_within : (cs : List Cell) (i : ℕ) → i < length cs → (c : Cell) × (slice_get cs i ≡ Some c)
cell_within [] i h = absurd (omega arith)
cell_within (c ∷ cs) zero h = (c, refl)
cell_within (c ∷ cs) (suc i) h = cell_within cs i (omega arith)

pub length_map : (ws : List Word) → length (map cell_of ws) ≡ length ws
length_map [] = refl
length_map (w ∷ ws) = omega (arith, length_map ws)

pub length_take : (cs : List Cell) (i : ℕ) → i ≤ length cs → length (take i cs) ≡ i
length_take cs zero h = refl
length_take [] (suc i) h = absurd (omega arith)
length_take (c ∷ cs) (suc i) h = omega (arith, length_take cs i (omega arith))

pub take_cells : (ws : List Word) (i : ℕ) → map cell_of (take i ws) ≡ take i (map cell_of ws)
take_cells ws zero = refl
take_cells [] (suc i) = refl
take_cells (w ∷ ws) (suc i) = ap (λ (cs : List Cell). cell_of w ∷ cs) (take_cells ws i)

get_before : (cs ds : List Cell) (q : ℕ) → q < length cs → slice_get (cs ++ ds) q ≡ slice_get cs q
get_before [] ds q h = absurd (omega arith)
get_before (c ∷ cs) ds zero h = refl
get_before (c ∷ cs) ds (suc q) h = get_before cs ds q (omega arith)

get_at_end : (cs : List Cell) (c : Cell) → slice_get (cs ++ c ∷ []) (length cs) ≡ Some c
get_at_end [] c = refl
get_at_end (d ∷ cs) c = get_at_end cs c

length_push : (cs : List Cell) (c : Cell) → length (cs ++ c ∷ []) ≡ length cs + 1
length_push [] c = refl
length_push (d ∷ cs) c = omega (arith, length_push cs c)

set_here : (cs : List Cell) (i : ℕ) (c : Cell) → i < length cs → slice_get (slice_set cs i c) i ≡ Some c
set_here [] i c h = absurd (omega arith)
set_here (d ∷ cs) zero c h = refl
set_here (d ∷ cs) (suc i) c h = set_here cs i c (omega arith)

set_other : (cs : List Cell) (i j : ℕ) (c : Cell) → j ≢ i → slice_get (slice_set cs i c) j ≡ slice_get cs j
set_other [] i j c a = refl
set_other (d ∷ cs) zero zero c a = absurd (a refl)
set_other (d ∷ cs) zero (suc j) c a = refl
set_other (d ∷ cs) (suc i) zero c a = refl
set_other (d ∷ cs) (suc i) (suc j) c a = set_other cs i j c (λ e. a (ap suc e))

set_size : (cs : List Cell) (i : ℕ) (c : Cell) → length (slice_set cs i c) ≡ length cs
set_size [] i c = refl
set_size (d ∷ cs) zero c = refl
set_size (d ∷ cs) (suc i) c = omega (arith, set_size cs i c)

take_one : (cs : List Cell) (i : ℕ) (a : Cell) → slice_get cs i ≡ Some a → take 1 (drop i cs) ≡ a ∷ []
take_one [] i a e = absurd cc
take_one (c ∷ cs) zero a e = (let f : c ≡ a = cc in ap (λ (y : Cell). y ∷ []) f)
take_one (c ∷ cs) (suc i) a e = take_one cs i a e

-- references to one block
pub one_self : (k : ℕ) → one k k ≡ 1
one_self k = elim (eqb_tells k k) [ inl y ↦ ap (λ (b : Bool). cond {A = ℕ} b 1 0) y.0 | inr y ↦ absurd (y.1 refl) ]

pub one_apart : (k n : ℕ) → n ≢ k → one k n ≡ 0
one_apart k n a = elim (eqb_tells k n) [ inl y ↦ absurd (a (sym y.1)) | inr y ↦ ap (λ (b : Bool). cond {A = ℕ} b 1 0) y.0 ]

pub named_one : (c : Cell) (k n : ℕ) → name_of c ≡ Some k → naming (c ∷ []) n ≡ one k n
named_one c k n e = naming_cons c [] n ∙ (let f : cond {A = ℕ} (refers n c) 1 0 ≡ one' k n =
    ap (λ (o : Option ℕ). cond {A = ℕ} (is_serial n o) 1 0) e in omega (arith, f, same k n))
  where
    one' : ℕ → ℕ → ℕ
    one' k n = cond {A = ℕ} (eqb k n) 1 0

    same : (k n : ℕ) → cond {A = ℕ} (eqb k n) 1 0 ≡ one k n
    same k n = refl

pub named_none : (c : Cell) (n : ℕ) → name_of c ≡ None → naming (c ∷ []) n ≡ 0
named_none c n e = naming_cons c [] n ∙ (let f : cond {A = ℕ} (refers n c) 1 0 ≡ 0 =
    ap (λ (o : Option ℕ). cond {A = ℕ} (is_serial n o) 1 0) e in omega (arith, f))

-- what is held
raised_none : (o : Option Block) → raised 0 o ≡ o
raised_none None = refl
raised_none (Some b) = (let e : b.count + 0 ≡ b.count = omega arith in ap (λ (k : ℕ). Some (record b { count = k })) e)

raised_twice : (j k : ℕ) (o : Option Block) → raised k (raised j o) ≡ raised (j + k) o
raised_twice j k None = refl
raised_twice j k (Some b) = (let e : b.count + j + k ≡ b.count + (j + k) = omega arith in ap (λ (x : ℕ). Some (record b { count = x })) e)

raised_count : (k : ℕ) (o : Option Block) → 0 < count_in o → count_in (raised k o) ≡ count_in o + k
raised_count k None h = absurd (omega arith)
raised_count k (Some b) h = refl

live_of_count : (o : Option Block) → 0 < count_in o → (b : Block) × (o ≡ Some b)
live_of_count None h = absurd (omega arith)
live_of_count (Some b) h = (b, refl)

pub holds_none : (h : Store) → Holds h h (λ _. 0)
holds_none h = record { made = refl; lost = refl; each = λ n. sym (raised_none (at h n)) }

pub holds_as : (h g : Store) (f f' : ℕ → ℕ) → ((n : ℕ) → f n ≡ f' n) → Holds h g f → Holds h g f'
holds_as h g f f' e a = record { made = a.made; lost = a.lost; each = λ n. a.each n ∙ ap (λ (k : ℕ). raised k (at h n)) (e n) }

pub holds_more : (h g k : Store) (f f' : ℕ → ℕ) → Holds h g f → Holds g k f' → Holds h k (λ n. f n + f' n)
holds_more h g k f f' a b = record {
  made = b.made ∙ a.made;
  lost = b.lost ∙ a.lost;
  each = λ n. b.each n ∙ ap (raised (f' n)) (a.each n) ∙ raised_twice (f n) (f' n) (at h n);
}

pub can_hold : (h : Store) (k : ℕ) → HaveRoom h (one k) → (b : Block) × (at h k ≡ Some b) × (hold_answer (at h k) ≡ Ok tt)
can_hold h k room =
    let r = room k (omega (arith, one_self k)) in
    let b = live_of_count (at h k) r.0 in
    let c : count (at h) k ≡ b.0.count = ap count_in b.1 in (
      b.0,
      b.1,
      ap hold_answer b.1 ∙ elim (eqb_tells b.0.count most) [
        | inl y ↦ absurd (omega (arith, y.1, r.1, one_self k))
        | inr y ↦ ap (λ (v : Bool). cond {A = Result (Unit {0}) HeapFault} v (Err Full) (Ok tt)) y.0
      ],
    )

pub holds_one : (h new : Store) (k : ℕ) (b : Block) → at h k ≡ Some b → new ≡ with_block h k (one_more b) → Holds h new (one k)
holds_one h new k b is made = record {
  made = ap (λ (v : Store). v.made) made;
  lost = ap (λ (v : Store). v.lost) made;
  each = λ n. ap (λ (v : Store). at v n) made ∙ elim (eqb_tells n k) [
    | inl y ↦
        ap (at (with_block h k (one_more b))) y.1 ∙ block_there h k (one_more b)
        ∙ sym (ap (λ (x : ℕ). raised (one k x) (at h x)) y.1 ∙ ap (λ (x : ℕ). raised x (at h k)) (one_self k) ∙ ap (raised 1) is)
    | inr y ↦ other_block h k (one_more b) n y.1 ∙ sym (ap (λ (x : ℕ). raised x (at h n)) (one_apart k n y.1) ∙ raised_none (at h n))
  ];
}

-- room for one more where some are held
pub room_left : (h g : Store) (cs : List Cell) (i k : ℕ) (c : Cell) → HaveRoom h (naming cs) → Holds h g (naming (take i cs))
    → slice_get cs i ≡ Some c → name_of c ≡ Some k → HaveRoom g (one k)
room_left h g cs i k c room held is names n l = elim (eqb_tells n k) [
  | inl y ↦
      let next : naming (take (i + 1) cs) n ≡ naming (take i cs) n + naming (c ∷ []) n =
      ap (λ (ds : List Cell). naming ds n) (take_next cs i c is) ∙ naming_append (take i cs) (c ∷ []) n in
      let here = named_one c k n names in
      let some = naming_some cs (i + 1) n in
      let r = room n (omega (arith, l)) in
      let e : count (at g) n ≡ count (at h) n + naming (take i cs) n = ap count_in (held.each n)
      ∙ raised_count (naming (take i cs) n) (at h n) r.0 in
      let o : one k n ≡ 1 = ap (one k) y.1 ∙ one_self k in
      (omega (arith, r.0), omega (arith, r.1))
  | inr y ↦ absurd (omega (arith, one_apart k n y.1, l))
]

pub holds_next : (h g new : Store) (cs : List Cell) (i k : ℕ) (c : Cell) → Holds h g (naming (take i cs)) → Holds g new (one k)
    → slice_get cs i ≡ Some c → name_of c ≡ Some k → Holds h new (naming (take (i + 1) cs))
holds_next h g new cs i k c a b is names =
    holds_as h new (λ n. naming (take i cs) n + one k n) (naming (take (i + 1) cs)) (λ n.
    let next : naming (take (i + 1) cs) n ≡ naming (take i cs) n + naming (c ∷ []) n =
    ap (λ (ds : List Cell). naming ds n) (take_next cs i c is) ∙ naming_append (take i cs) (c ∷ []) n in
    omega (arith, named_one c k n names)) (holds_more h g new (naming (take i cs)) (one k) a b)

pub take_same : (cs : List Cell) (i n : ℕ) (c : Cell) → slice_get cs i ≡ Some c → name_of c ≡ None
    → naming (take (i + 1) cs) n ≡ naming (take i cs) n
take_same cs i n c is none = ap (λ (ds : List Cell). naming ds n) (take_next cs i c is) ∙ naming_append (take i cs) (c ∷ []) n
    ∙ omega (arith, named_none c n none)

-- blocks stay where some are held
pub holds_part : (h g : Store) (f : ℕ → ℕ) → Holds h g f → IsPart (at h) (at g)
holds_part h g f a s = subst (λ (o : Option Block). IsSameBut (at h s) o) (sym (a.each s)) (go (at h s))
  where
    go : (o : Option Block) → IsSameBut o (raised (f s) o)
    go None = tt
    go (Some b) = (refl, refl)

-- a word is put
pub can_set : (h : Store) (k i : ℕ) (c : Cell) → CanPut h k i (c ∷ []) → set_answer (at h k) i c ≡ Ok tt
can_set h k i c t =
    let room : i < length t.words = (let r = t.room in omega arith) in
    let a = cell_within t.words i room in
    let there : slice_get t.words (i + 0) ≡ Some a.0 = (let e : i + 0 ≡ i = omega arith in ap (slice_get t.words) e) ∙ a.1 in
    let same : is_reference a.0 ≡ is_reference c = t.fits 0 a.0 c there refl in
    ap (λ (o : Option Block). set_answer o i c) t.live
    ∙ ap (λ (x : Content). fits_there (slice_get (cells x) i) c) t.content
    ∙ ap (λ (o : Option Cell). fits_there o c) a.1
    ∙ ap (λ (b : Bool). fits b (is_reference c)) same ∙ alike (is_reference c)
  where
    alike : (b : Bool) → fits b b ≡ Ok tt
    alike true = refl
    alike false = refl

pub may_take_wide : (v : Content) (ws : List Cell) (c : Cell) → v ≡ wide ws → MayTake v c
may_take_wide v ws c e = subst (λ (x : Content). MayTake x c) (sym e) tt

pub put_one : (h new : Store) (k i : ℕ) (c : Cell) (t : CanPut h k i (c ∷ []))
    → new ≡ with_block h k (with_content t.block (with_cell t.block.content i c))
    → ((n : ℕ) → outside new n + naming (c ∷ []) n ≡ outside h n + naming (word_in (at h k) i) n) → Puts h new k i (c ∷ [])
put_one h new k i c t made held =
    let room : i < length t.words = (let r = t.room in omega arith) in
    let a = cell_within t.words i room in
    record {
      block = t.block;
      live = t.live;
      words = t.words;
      content = t.content;
      put = slice_set t.words i c;
      changed = made ∙ ap (λ (x : Content). with_block h k (with_content t.block (with_cell x i c))) t.content;
      size = set_size t.words i c;
      here = λ q l.
          let z : q ≡ 0 = omega arith in
          (let e : i + q ≡ i = omega arith in ap (slice_get (slice_set t.words i c)) e) ∙ set_here t.words i c room
          ∙ sym (ap (slice_get (c ∷ [])) z);
      apart = λ j o. set_other t.words i j c (λ e. absurd (beside j o e));
      held = λ n.
          let e : naming (word_in (at h k) i) n ≡ naming (a.0 ∷ []) n
          = ap (λ (o : Option Block). naming (word_in o i) n) t.live ∙ ap
          (λ (x : Content). naming (alone (slice_get (cells x) i)) n) t.content ∙ ap (λ (o : Option Cell). naming (alone o) n) a.1 in
          let f : naming (take 1 (drop i t.words)) n ≡ naming (a.0 ∷ []) n =
          ap (λ (cs : List Cell). naming cs n) (take_one t.words i a.0 a.1) in
          let g = held n in
          omega arith;
    }
  where
    beside : (j : ℕ) → (j < i) ⊎ (i + 1 ≤ j) → j ≡ i → ⊥
    beside j (inl l) e = absurd (omega arith)
    beside j (inr l) e = absurd (omega arith)

pub puts_none : (h : Store) (k from : ℕ) (cs : List Cell) → CanPut h k from cs → Puts h h k from []
puts_none h k from cs t =
    let same : at h k ≡ Some (with_content t.block (wide t.words)) = t.live
    ∙ ap (λ (c : Content). Some (with_content t.block c)) t.content in
    record {
      block = t.block;
      live = t.live;
      words = t.words;
      content = t.content;
      put = t.words;
      changed = sym (put_same h k (with_content t.block (wide t.words)) same);
      size = refl;
      here = λ q l. absurd (omega arith);
      apart = λ i o. refl;
      held = λ n. refl;
    }

-- and one more
pub puts_more : (h cur new : Store) (k from : ℕ) (cs : List Cell) (c : Cell) → Puts h cur k from cs
    → Puts cur new k (from + length cs) (c ∷ []) → Puts h new k from (cs ++ c ∷ [])
puts_more h cur new k from cs c p q =
    let mid = with_content p.block (wide p.put) in
    let now : at cur k ≡ Some mid = ap (λ (v : Store). at v k) p.changed ∙ block_there h k mid in
    let same : q.block ≡ mid = (let f : Some q.block ≡ Some mid = sym q.live ∙ now in cc) in
    let inner : wide q.words ≡ wide p.put = sym q.content ∙ ap (λ (x : Block). x.content) same in
    let words : q.words ≡ p.put = cc in
    let long = length_push cs c in
    record {
      block = p.block;
      live = p.live;
      words = p.words;
      content = p.content;
      put = q.put;
      changed = q.changed
          ∙ ap (λ (x : Block). with_block cur k (with_content x (wide q.put))) same
          ∙ ap (λ (v : Store). with_block v k (with_content p.block (wide q.put))) p.changed
          ∙ put_twice h k mid (with_content p.block (wide q.put));
      size = q.size ∙ ap length words ∙ p.size;
      here = λ j l. elim (cases_lt j (length cs)) [
        | inl y ↦ q.apart (from + j) (inl (omega (arith, y))) ∙ ap (λ (ws : List Cell). slice_get ws (from + j)) words ∙ p.here j y
            ∙ sym (get_before cs (c ∷ []) j y)
        | inr y ↦
            let e : j ≡ length cs = omega (arith, y, l, long) in
            let f : from + j ≡ from + length cs + 0 = omega (arith, e) in
            ap (slice_get q.put) f ∙ q.here 0 (omega arith) ∙ sym (ap (slice_get (cs ++ c ∷ [])) e ∙ get_at_end cs c)
      ];
      apart = λ i o. q.apart i (outer i o) ∙ ap (λ (ws : List Cell). slice_get ws i) words ∙ p.apart i (inner_of i o);
      held = λ n.
          let a = p.held n in
          let b = q.held n in
          let d = naming_append cs (c ∷ []) n in
          let e : take (length (cs ++ c ∷ [])) (drop from p.words) ≡ take (length cs) (drop from p.words) ++ take 1
          (drop (length cs) (drop from p.words))
          = ap (λ (x : ℕ). take x (drop from p.words)) long ∙ take-add (length cs) 1 (drop from p.words) in
          let f = ap (λ (ds : List Cell). naming ds n) e ∙ naming_append (take (length cs) (drop from p.words))
          (take 1 (drop (length cs) (drop from p.words))) n in
          let g : take 1 (drop (from + length cs) q.words) ≡ take 1 (drop (length cs) (drop from p.words)) =
          words_alike q.words (drop from p.words) (from + length cs) (length cs) 1 (λ x l.
          ap (λ (ws : List Cell). slice_get ws (from + length cs + x)) words ∙ p.apart (from + length cs + x) (inr (omega arith))
          ∙ (let z : from + length cs + x ≡ from + (length cs + x) = omega arith in ap (slice_get p.words) z)
          ∙ sym (get_cell_drop p.words from (length cs + x))) in
          let m = ap (λ (ds : List Cell). naming ds n) g in
          omega arith;
    }
  where
    outer : (i : ℕ) → (i < from) ⊎ (from + length (cs ++ c ∷ []) ≤ i) → (i < from + length cs) ⊎ (from + length cs + 1 ≤ i)
    outer i (inl l) = inl (omega arith)
    outer i (inr l) = inr (omega (arith, length_push cs c))

    inner_of : (i : ℕ) → (i < from) ⊎ (from + length (cs ++ c ∷ []) ≤ i) → (i < from) ⊎ (from + length cs ≤ i)
    inner_of i (inl l) = inl l
    inner_of i (inr l) = inr (omega (arith, length_push cs c))

pub can_put_next : (h cur : Store) (k from i : ℕ) (cs : List Cell) (c : Cell) → CanPut h k from cs → Puts h cur k from (take i cs)
    → slice_get cs i ≡ Some c → i < length cs → CanPut cur k (from + i) (c ∷ [])
can_put_next h cur k from i cs c t p is within =
    let mid = with_content p.block (wide p.put) in
    let same : p.block ≡ t.block = (let f : Some p.block ≡ Some t.block = sym p.live ∙ t.live in cc) in
    let inner : wide p.words ≡ wide t.words = sym p.content ∙ ap (λ (x : Block). x.content) same ∙ t.content in
    let words : p.words ≡ t.words = cc in
    let long = length_take cs i (omega arith) in
    record {
      block = mid;
      live = ap (λ (v : Store). at v k) p.changed ∙ block_there h k mid;
      words = p.put;
      content = refl;
      room = (let r = t.room in let s = p.size in let w = ap length words in omega arith);
      fits = λ q a d there one. fits_at q a d there one;
    }
  where
    fits_at : (q : ℕ) (a d : Cell) → slice_get p.put (from + i + q) ≡ Some a → slice_get (c ∷ []) q ≡ Some d
        → is_reference a ≡ is_reference d
    fits_at zero a d there one =
        let same : p.block ≡ t.block = (let f : Some p.block ≡ Some t.block = sym p.live ∙ t.live in cc) in
        let inner : wide p.words ≡ wide t.words = sym p.content ∙ ap (λ (x : Block). x.content) same ∙ t.content in
        let words : p.words ≡ t.words = cc in
        let z : from + i ≡ from + i + 0 = omega arith in
        let e : slice_get t.words (from + i) ≡ Some a
        = ap (λ (ws : List Cell). slice_get ws (from + i)) (sym words) ∙ sym
        (p.apart (from + i) (inr (omega (arith, length_take cs i (omega arith))))) ∙ ap (slice_get p.put) z ∙ there in
        let f : c ≡ d = cc in
        t.fits i a c e is ∙ ap is_reference f
    fits_at (suc q) a d there one = absurd cc

pub held_next : (h cur : Store) (k from i : ℕ) (cs : List Cell) (c : Cell) → AreHeld h (naming cs) → Puts h cur k from (take i cs)
    → slice_get cs i ≡ Some c → AreHeld cur (naming (c ∷ []))
held_next h cur k from i cs c held p is n =
    let a = held n in
    let b = p.held n in
    let next : naming (take (i + 1) cs) n ≡ naming (take i cs) n + naming (c ∷ []) n =
    ap (λ (ds : List Cell). naming ds n) (take_next cs i c is) ∙ naming_append (take i cs) (c ∷ []) n in
    let some = naming_some cs (i + 1) n in
    omega arith

pub naming_step : (cs : List Cell) (i n : ℕ) (c : Cell) → slice_get cs i ≡ Some c
    → naming (take (i + 1) cs) n ≡ naming (take i cs) n + cond {A = ℕ} (refers n c) 1 0
naming_step cs i n c is = ap (λ (ds : List Cell). naming ds n) (take_next cs i c is) ∙ naming_append (take i cs) (c ∷ []) n
    ∙ omega (arith, naming_cons c [] n)

-- a name that the first words have not
pub name_there : (c : Cell) (n : ℕ) → 0 < cond {A = ℕ} (refers n c) 1 0 → name_of c ≡ Some n
name_there c n h = go (name_of c) refl
  where
    go : (o : Option ℕ) → name_of c ≡ o → name_of c ≡ Some n
    go None e = absurd (let f : cond {A = ℕ} (refers n c) 1 0 ≡ 0 = ap (λ (o : Option ℕ). cond {A = ℕ} (is_serial n o) 1 0) e in omega
        arith)
    go (Some s) e = elim (eqb_tells s n) [
      | inl y ↦ e ∙ ap (λ (x : ℕ). Some x) y.1
      | inr y ↦ absurd (let f : cond {A = ℕ} (refers n c) 1 0 ≡ 0 = ap (λ (o : Option ℕ). cond {A = ℕ} (is_serial n o) 1 0) e
          ∙ ap (λ (b : Bool). cond {A = ℕ} b 1 0) y.0 in omega arith)
    ]

pub can_put_held : (h g : Store) (k from : ℕ) (cs : List Cell) (f : ℕ → ℕ) → Holds h g f → CanPut h k from cs → CanPut g k from cs
can_put_held h g k from cs f a t = record {
  block = record t.block { count = t.block.count + f k };
  live = a.each k ∙ ap (raised (f k)) t.live;
  words = t.words;
  content = t.content;
  room = t.room;
  fits = t.fits;
}

-- all in one
pub moved : (h g cur new : Store) (k from : ℕ) (cs gs : List Cell) (t : CanPut h k from cs) → Holds h g (naming cs)
    → Puts g cur k from cs → gs ≡ take (length cs) (drop from t.words)
    → Drops cur new (naming gs) → Lists cur new → Moves h new k from cs
moved h g cur new k from cs gs t a p e d l =
    let raised_block = record t.block { count = t.block.count + naming cs k } in
    let there : at g k ≡ Some raised_block = a.each k ∙ ap (raised (naming cs k)) t.live in
    let same : p.block ≡ raised_block = (let f : Some p.block ≡ Some raised_block = sym p.live ∙ there in cc) in
    let inner : wide p.words ≡ wide t.words = sym p.content ∙ ap (λ (x : Block). x.content) same ∙ t.content in
    let words : p.words ≡ t.words = cc in
    let b0 = with_content t.block (wide p.put) in
    record {
      block = t.block;
      live = t.live;
      words = t.words;
      content = t.content;
      put = p.put;
      here = p.here;
      apart = λ i o. p.apart i o ∙ ap (λ (ws : List Cell). slice_get ws i) words;
      middle = cur;
      made = ap (λ (v : Store). v.made) p.changed ∙ a.made;
      held = λ n. ap (λ (v : Store). at v n) p.changed ∙ elim (eqb_tells n k) [
        | inl y ↦
            ap (at (with_block g k (with_content p.block (wide p.put)))) y.1 ∙ block_there g k (with_content p.block (wide p.put))
            ∙ ap (λ (x : Block). Some (with_content x (wide p.put))) same
            ∙ sym (ap (λ (x : ℕ). raised (naming cs x) (at (with_block h k b0) x)) y.1 ∙ ap (raised (naming cs k)) (block_there h k b0))
        | inr y ↦
            other_block g k (with_content p.block (wide p.put)) n y.1 ∙ a.each n
            ∙ sym (ap (raised (naming cs n)) (other_block h k b0 n y.1))
      ];
      drops = subst (λ (xs : List Cell). Drops cur new (naming xs)) e d;
      lists = l;
    }
