-- The blocks that a machine begins with, one by one: the instance, texts, and the cells of a list that is made the last word first.
use Rattle.std.proofs.Common.{◌≡◌, ℕ, zero, suc, ◌+◌, ◌*◌, ◌<◌, ◌≤◌, ◌⊎◌, List, [], ◌∷◌, ◌++◌, length, map, Option, None, Some, inl, inr, refl, sym, ap, ◌∙◌, subst, arith}
use Rattle.std.specs.Prelude.{slice_get}
use Rattle.heap_model.specs.Heap.{Heap, at}
use Rattle.heap_model.specs.Facts.{Fact, Named, Chars}
use Rattle.limbo_types.specs.Types as ty
use Rattle.limbo_meaning.specs.Values as value
use Rattle.limbo_meaning.specs.Memory as source
use Rattle.limbo_meaning.specs.Memory.{HeapValue}
use Rattle.limbo_meaning.specs.Runs.{list_from, cells_from}
use Rattle.dis_meaning.specs.Words.{Word, Refer}
use Rattle.dis_memory.specs.Blocks as block
use Rattle.dis_memory.specs.Blocks.{Block, World}
use Rattle.value_words.specs.Forms.{Form, Cells, Instances}
use Rattle.value_entry.specs.Opening.{listed}

-- ---- one by one

-- A block: the instance with its words, a text, or a cell, which stands for the value of this name, and refers to a text and to the rest.
pub data Entry : Type 0 where
  AnInstance : List Word → Entry
  AText : List ℕ → Entry
  ACell : (name text : ℕ) → (rest : Option ℕ) → Entry

abbrev pub block_of : Entry → Block
block_of (AnInstance words) = block.Instance 0 words
block_of (AText t) = block.Text t
block_of (ACell n t r) = block.Cell (Refer (Some t) ∷ []) r

abbrev pub fact_of : Entry → Fact Block
fact_of (AnInstance words) = Named 0
fact_of (AText t) = Chars t
fact_of (ACell n t r) = Named n

abbrev pub form_of : Entry → Option Form
form_of (AnInstance words) = Some Instances
form_of (AText t) = None
form_of (ACell n t r) = Some (Cells ty.Chars)

abbrev pub heap_of : List Entry → Heap Block
heap_of es = map (λ e. Some (block_of e)) es

-- ---- lists

pub left : {A : Type 0} (xs : List A) (a : A) (q : ℕ) (e : A) → slice_get xs q ≡ Some e → slice_get (xs ++ a ∷ []) q ≡ Some e
left [] a q e h = absurd cc
left (x ∷ xs) a zero e h = h
left (x ∷ xs) a (suc q) e h = left xs a q e h

pub last_one : {A : Type 0} (xs : List A) (a : A) → slice_get (xs ++ a ∷ []) (length xs) ≡ Some a
last_one [] a = refl
last_one (x ∷ xs) a = last_one xs a

pub either : {A : Type 0} (xs : List A) (a : A) (q : ℕ) (e : A) → slice_get (xs ++ a ∷ []) q ≡ Some e
    → (slice_get xs q ≡ Some e) ⊎ ((q ≡ length xs) × (a ≡ e))
either [] a zero e h = inr (refl, cc)
either [] a (suc q) e h = absurd cc
either (x ∷ xs) a zero e h = inl h
either (x ∷ xs) a (suc q) e h = elim (either xs a q e h) [ inl i ↦ inl i | inr i ↦ inr (ap suc i.0, i.1) ]

pub longer : {A : Type 0} (xs : List A) (a : A) → length (xs ++ a ∷ []) ≡ suc (length xs)
longer [] a = refl
longer (x ∷ xs) a = ap suc (longer xs a)

mapped_one : {A B : Type 0} (h : A → B) (xs : List A) (a : A) → map h (xs ++ a ∷ []) ≡ map h xs ++ h a ∷ []
mapped_one h [] a = refl
mapped_one h (x ∷ xs) a = ap (λ (l : List _). h x ∷ l) (mapped_one h xs a)

mapped_long : {A B : Type 0} (h : A → B) (xs : List A) → length (map h xs) ≡ length xs
mapped_long h [] = refl
mapped_long h (x ∷ xs) = ap suc (mapped_long h xs)

pub block_there : (es : List Entry) (q : ℕ) (e : Entry) → slice_get es q ≡ Some e → at (heap_of es) q ≡ Some (block_of e)
block_there [] q e h = absurd cc
block_there (x ∷ es) zero e h = ap (λ (y : Entry). Some (block_of y)) (let g : x ≡ e = cc in g)
block_there (x ∷ es) (suc q) e h = block_there es q e h

pub entry_there : (es : List Entry) (q : ℕ) (b : Block) → at (heap_of es) q ≡ Some b → (e : Entry) × (slice_get es q ≡ Some e) × (block_of e ≡ b)
entry_there [] q b h = absurd cc
entry_there (x ∷ es) zero b h = (x, refl, cc)
entry_there (x ∷ es) (suc q) b h = entry_there es q b h

pub heap_long : (es : List Entry) → length (heap_of es) ≡ length es
heap_long es = mapped_long (λ e. Some (block_of e)) es

pub past_end : {A : Type 0} (xs : List A) (q : ℕ) → length xs ≤ q → slice_get xs q ≡ None
past_end [] q l = refl
past_end (x ∷ xs) zero l = absurd (omega arith)
past_end (x ∷ xs) (suc q) l = past_end xs q (omega arith)

-- ---- a list of words behind others

module _ (front : List Entry) where
  -- with what refers to the list
  abbrev pub made : (name : ℕ) → (words : List (List ℕ)) → List Entry × Option ℕ
  made n [] = (front, None)
  made n (w ∷ ws) =
      let more = made (suc n) ws in
      ((more.0 ++ AText w ∷ []) ++ ACell n (length more.0) more.1 ∷ [], Some (suc (length more.0)))

  abbrev pub entries : (name : ℕ) → (words : List (List ℕ)) → List Entry
  entries n ws = (made n ws).0

  abbrev pub list_at : (name : ℕ) → (words : List (List ℕ)) → Option ℕ
  list_at n ws = (made n ws).1

  -- These are the blocks that the machine begins with.
  pub record AreListed (x : World) (n : ℕ) (ws : List (List ℕ)) : Type 0 where
    pub heap : (listed x ws).world.heap ≡ heap_of (entries n ws)
    pub list : (listed x ws).list ≡ list_at n ws
    pub outside : (listed x ws).world.outside ≡ x.outside

  pub are_listed : (x : World) → x.heap ≡ heap_of front → (n : ℕ) (ws : List (List ℕ)) → AreListed x n ws
  are_listed x same n [] = record { heap = same; list = refl; outside = refl }
  are_listed x same n (w ∷ ws) =
      let r = are_listed x same (suc n) ws in
      let es = entries (suc n) ws in
      let long : length (listed x ws).world.heap ≡ length es = ap length r.heap ∙ heap_long es in
      let last : Entry = ACell n (length es) (list_at (suc n) ws) in
      let text : (listed x ws).world.heap ++ Some (block.Text w) ∷ [] ≡ heap_of (es ++ AText w ∷ []) =
      ap (λ (h : Heap Block). h ++ Some (block.Text w) ∷ []) r.heap ∙ sym (mapped_one (λ e. Some (block_of e)) es (AText w)) in
      let cell : block.Cell (Refer (Some (length (listed x ws).world.heap)) ∷ []) (listed x ws).list ≡ block_of last =
      ap (λ (k : ℕ). block.Cell (Refer (Some k) ∷ []) (listed x ws).list) long
      ∙ ap (λ (o : Option ℕ). block.Cell (Refer (Some (length es)) ∷ []) o) r.list in
      record {
        heap = ap (λ (h : Heap Block). h ++ Some (block.Cell (Refer (Some (length (listed x ws).world.heap)) ∷ []) (listed x ws).list) ∷ []) text
            ∙ ap (λ (b : Block). heap_of (es ++ AText w ∷ []) ++ Some b ∷ []) cell
            ∙ sym (mapped_one (λ e. Some (block_of e)) (es ++ AText w ∷ []) last);
        list = ap (λ (k : ℕ). Some (suc k)) long;
        outside = r.outside;
      }

  -- what stands in front stays there
  pub front_there : (n : ℕ) (ws : List (List ℕ)) (q : ℕ) (e : Entry) → slice_get front q ≡ Some e → slice_get (entries n ws) q ≡ Some e
  front_there n [] q e h = h
  front_there n (w ∷ ws) q e h =
      left (entries (suc n) ws ++ AText w ∷ []) _ q e (left (entries (suc n) ws) (AText w) q e (front_there (suc n) ws q e h))

  pub many : (n : ℕ) (ws : List (List ℕ)) → length (entries n ws) ≡ length front + 2 * length ws
  many n [] = omega arith
  many n (w ∷ ws) =
      let r = many (suc n) ws in
      let a = longer (entries (suc n) ws) (AText w) in
      let b = longer (entries (suc n) ws ++ AText w ∷ []) (ACell n (length (entries (suc n) ws)) (list_at (suc n) ws)) in
      omega (arith, r, a, b)

  -- ---- cells

  -- Behind a cell is nothing on either side, or another cell on both.
  abbrev pub RestIs : List Entry → (place : ℕ) → (tail rest : Option ℕ) → Type 0
  RestIs es q None None = Unit {0}
  RestIs es q None (Some r) = ⊥
  RestIs es q (Some t) None = ⊥
  RestIs es q (Some t) (Some r) = (r < q) × (text : ℕ) × (more : Option ℕ) × (slice_get es r ≡ Some (ACell t text more))

  -- The cell of a name at a place is that of a word, where the text is, and behind it is the cell of what follows.
  pub record CellIs (n : ℕ) (ws : List (List ℕ)) (es : List Entry) (q name text : ℕ) (rest : Option ℕ) : Type 0 where
    pub number : ℕ
    pub name_is : name ≡ n + number
    pub place : q + 2 * name + 1 ≡ length front + 2 * (n + length ws)
    pub word : List ℕ
    pub got : slice_get ws number ≡ Some word
    pub text_is : slice_get es text ≡ Some (AText word)
    pub tail : Option ℕ
    pub source_is : at (cells_from n ws) number ≡ Some (source.Cell (value.Chars word) tail)
    pub rest_is : RestIs es q tail rest

  rest_left : (es : List Entry) (a : Entry) (q : ℕ) (tail rest : Option ℕ) → RestIs es q tail rest → RestIs (es ++ a ∷ []) q tail rest
  rest_left es a q None None h = h
  rest_left es a q None (Some r) h = h
  rest_left es a q (Some t) None h = h
  rest_left es a q (Some t) (Some r) h = (h.0, h.1, h.2, left es a r (ACell t h.1 h.2) h.3)

  pub first_rest : (n : ℕ) (w : List ℕ) (ws : List (List ℕ)) → RestIs (entries n (w ∷ ws)) (suc (length (entries (suc n) ws ++ AText w ∷ []))) (list_from n (w ∷ ws)) (list_at n (w ∷ ws))
  first_rest n w ws =
      let a = longer (entries (suc n) ws) (AText w) in
      let last : Entry = ACell n (length (entries (suc n) ws)) (list_at (suc n) ws) in (
        omega (arith, a),
        length (entries (suc n) ws),
        list_at (suc n) ws,
        subst (λ (k : ℕ). slice_get (entries n (w ∷ ws)) k ≡ Some last) a (last_one (entries (suc n) ws ++ AText w ∷ []) last),
      )

  rest_at : (n : ℕ) (ws : List (List ℕ)) (q : ℕ) → length (entries n ws) ≤ q → RestIs (entries n ws) q (list_from n ws) (list_at n ws)
  rest_at n [] q l = tt
  rest_at n (w ∷ ws) q l =
      let r = first_rest n w ws in
      let a = longer (entries (suc n) ws) (AText w) in
      let b = longer (entries (suc n) ws ++ AText w ∷ []) (ACell n (length (entries (suc n) ws)) (list_at (suc n) ws)) in
      (omega (arith, a, b, l), r.1, r.2, r.3)

  module _ (bare : (q name text : ℕ) (rest : Option ℕ) → slice_get front q ≡ Some (ACell name text rest) → ⊥) where
    pub cell_is : (n : ℕ) (ws : List (List ℕ)) (q name text : ℕ) (rest : Option ℕ) → slice_get (entries n ws) q ≡ Some (ACell name text rest)
        → CellIs n ws (entries n ws) q name text rest
    cell_is n [] q name text rest h = absurd (bare q name text rest h)
    cell_is n (w ∷ ws) q name text rest h =
        go (cell_is (suc n) ws q name text rest) (either (es ++ AText w ∷ []) last q (ACell name text rest) h)
      where
        es : List Entry
        es = entries (suc n) ws

        last : Entry
        last = ACell n (length es) (list_at (suc n) ws)

        go : (slice_get es q ≡ Some (ACell name text rest) → CellIs (suc n) ws es q name text rest)
            → (slice_get (es ++ AText w ∷ []) q ≡ Some (ACell name text rest)) ⊎ ((q ≡ length (es ++ AText w ∷ [])) × (last ≡ ACell name text rest))
            → CellIs n (w ∷ ws) (entries n (w ∷ ws)) q name text rest
        go more (inl i) = old (either es (AText w) q (ACell name text rest) i)
          where
            old : (slice_get es q ≡ Some (ACell name text rest)) ⊎ ((q ≡ length es) × (AText w ≡ ACell name text rest))
                → CellIs n (w ∷ ws) (entries n (w ∷ ws)) q name text rest
            old (inr j) = absurd (let e = j.1 in cc)
            old (inl j) =
                let c = more j in
                let e = c.name_is in
                let p = c.place in
                record {
                  number = suc c.number;
                  name_is = omega (arith, e);
                  place = omega (arith, p);
                  word = c.word;
                  got = c.got;
                  text_is = left (es ++ AText w ∷ []) last text (AText c.word) (left es (AText w) text (AText c.word) c.text_is);
                  tail = c.tail;
                  source_is = c.source_is;
                  rest_is = rest_left (es ++ AText w ∷ []) last q c.tail rest (rest_left es (AText w) q c.tail rest c.rest_is);
                }
        go more (inr i) =
            let a = longer es (AText w) in
            let b = many (suc n) ws in
            let here = i.0 in
            let same : n ≡ name = let e = i.1 in cc in
            let text_same : length es ≡ text = let e = i.1 in cc in
            let rest_same : list_at (suc n) ws ≡ rest = let e = i.1 in cc in
            record {
              number = 0;
              name_is = omega (arith, same);
              place = omega (arith, a, b, here, same);
              word = w;
              got = refl;
              text_is = subst (λ (t : ℕ). slice_get (entries n (w ∷ ws)) t ≡ Some (AText w)) text_same
                  (left (es ++ AText w ∷ []) last (length es) (AText w) (last_one es (AText w)));
              tail = list_from (suc n) ws;
              source_is = refl;
              rest_is = subst (λ (r : Option ℕ). RestIs (entries n (w ∷ ws)) q (list_from (suc n) ws) r) rest_same
                  (rest_left (es ++ AText w ∷ []) last q (list_from (suc n) ws) (list_at (suc n) ws)
                  (rest_left es (AText w) q (list_from (suc n) ws) (list_at (suc n) ws) (rest_at (suc n) ws q (omega (arith, a, here)))));
            }

  -- the cell of each name is there
  pub cell_there : (n : ℕ) (ws : List (List ℕ)) (i : ℕ) (v : HeapValue) → at (cells_from n ws) i ≡ Some v
      → (q text : ℕ) × (rest : Option ℕ) × (slice_get (entries n ws) q ≡ Some (ACell (n + i) text rest))
  cell_there n [] i v h = absurd cc
  cell_there n (w ∷ ws) zero v h =
      let same : n ≡ n + 0 = omega arith in (
        length (entries (suc n) ws ++ AText w ∷ []),
        length (entries (suc n) ws),
        list_at (suc n) ws,
        subst (λ (k : ℕ). slice_get (entries n (w ∷ ws)) (length (entries (suc n) ws ++ AText w ∷ [])) ≡ Some (ACell k (length (entries (suc n) ws)) (list_at (suc n) ws)))
            same (last_one (entries (suc n) ws ++ AText w ∷ []) (ACell n (length (entries (suc n) ws)) (list_at (suc n) ws))),
      )
  cell_there n (w ∷ ws) (suc i) v h =
      let r = cell_there (suc n) ws i v h in
      let same : suc n + i ≡ n + suc i = omega arith in
      let e = left (entries (suc n) ws ++ AText w ∷ []) (ACell n (length (entries (suc n) ws)) (list_at (suc n) ws)) r.0 (ACell (suc n + i) r.1 r.2)
      (left (entries (suc n) ws) (AText w) r.0 (ACell (suc n + i) r.1 r.2) r.3) in
      (r.0, r.1, r.2, subst (λ (k : ℕ). slice_get (entries n (w ∷ ws)) r.0 ≡ Some (ACell k r.1 r.2)) same e)

  -- an instance stands in front
  pub instance_front : (n : ℕ) (ws : List (List ℕ)) (q : ℕ) (words : List Word) → slice_get (entries n ws) q ≡ Some (AnInstance words)
      → slice_get front q ≡ Some (AnInstance words)
  instance_front n [] q words h = h
  instance_front n (w ∷ ws) q words h =
      go (instance_front (suc n) ws q words) (either (es ++ AText w ∷ []) (ACell n (length es) (list_at (suc n) ws)) q (AnInstance words) h)
    where
      es : List Entry
      es = entries (suc n) ws

      go : (slice_get es q ≡ Some (AnInstance words) → slice_get front q ≡ Some (AnInstance words))
          → (slice_get (es ++ AText w ∷ []) q ≡ Some (AnInstance words)) ⊎ ((q ≡ length (es ++ AText w ∷ [])) × (ACell n (length es) (list_at (suc n) ws) ≡ AnInstance words))
          → slice_get front q ≡ Some (AnInstance words)
      go more (inl i) = elim (either es (AText w) q (AnInstance words) i) [ inl j ↦ more j | inr j ↦ absurd (let e = j.1 in cc) ]
      go more (inr i) = absurd (let e = i.1 in cc)
