-- What instructions find that change strings.
use Rattle.std.proofs.Common.{◌≡◌, ℕ, true, List, Option, Some, None, refl, sym, ap, ◌∙◌}
use Rattle.std.specs.Option.{option_map}
use Rattle.dis_file.specs.declared.object.Object.{Object}
use Rattle.dis_isa.specs.declared.inst.Inst.{Inst}
use Rattle.dis_isa.specs.declared.inst.Middle.{Middle}
use Rattle.dis_isa.specs.declared.inst.Middle.TheVariants as middle
use Rattle.ref_heap.specs.declared.kind.Kind.{Kind}
use Rattle.ref_heap.specs.declared.kind.Kind.TheVariants as kind
use Rattle.ref_heap.specs.Store.{Block, IsHeap, at}
use Rattle.ref_heap.specs.Words.{Content, wide, compact}
use Rattle.heap_cuts.specs.Shapes.{shape_of}
use Rattle.dis_meaning.specs.Places.{Spot}
use Rattle.dis_meaning.specs.Process as view
use Rattle.dis_meaning.specs.Words.{Word, Access, Found, Wrong, Raises, Refer, ◌>>=◌, dead_address, or_wrong, reference}
use Rattle.dis_memory.specs.Blocks.{Text, World, next_serial, with_block}
use Rattle.dis_memory.specs.Kinds.{text_at, text_in}
use Rattle.dis_memory.specs.Places.{read, reference_at, spot, store}
use Rattle.dis_memory.specs.Process.{Does, next}
use Rattle.dis_memory.specs.Results.{gives_block_at}
use Rattle.dis_memory.specs.Strings as strings
use Rattle.dis_places.specs.declared.fault.Halt.{Halt}
use Rattle.dis_places.specs.declared.memory.Memory.{Memory}
use Rattle.dis_places.specs.declared.memory.Tables.{Tables}
use Rattle.dis_places.specs.Blocks.{block_by, is_compact, is_proper, numbers_of, view_shape}
use Rattle.dis_places.specs.View.{view_world}
use Rattle.dis_places.specs.Words.{Halts}
use Rattle.dis_places.proofs.Heaps.{at_view}
use Rattle.dis_stores.proofs.Blocks.{halts_on}
use Rattle.dis_results.proofs.Onward.{halts_same}
use Rattle.dis_results.proofs.Sources.{refers_there}
use Rattle.dis_strings.specs.Renewing.{HasText}
use Rattle.dis_strings.specs.Telling.{as_block, left_reference}

-- ---- what stands there

pub there_is : (x : World) (q : view.Process) (d : Spot) (r : Option ℕ) → reference_at x q d ≡ Found r → read x q d ≡ Found (Refer r)
there_is x q d r e = go (read x q d) e
  where
    go : (a : Access Word) → (a >>= reference) ≡ Found r → a ≡ Found (Refer r)
    go (Found w) e = ap Found (refers_there w r e)
    go (Wrong n) e = absurd cc
    go (Raises text) e = absurd cc

record IsString (k : Kind) (c : Content) (s : List ℕ) : Type 0 where
  kind : k ≡ kind.Text
  numbers : numbers_of c ≡ s

is_string : (t : Tables) (k : Kind) (c : Content) (s : List ℕ) → text_in (block_by t k c) ≡ Found s → IsString k c s
is_string t kind.Record c s e = absurd cc
is_string t (kind.Fd number) c s e = absurd cc
is_string t kind.Text c s e = record { kind = refl; numbers = cc }
is_string t (kind.Array element long) c s e = absurd cc
is_string t (kind.Slice from long) c s e = absurd cc
is_string t kind.Cell c s e = absurd cc
is_string t (kind.Channel element) c s e = absurd cc
is_string t (kind.Instance object) c s e = absurd cc
is_string t (kind.Sys names) c s e = absurd cc

kept_compact : (c : Content) (s : List ℕ) → is_compact c ≡ true → numbers_of c ≡ s → c ≡ compact s
kept_compact (wide ws) s p e = absurd cc
kept_compact (compact ns) s p e = ap compact e

-- The string to which a reference leads.
pub has_text : (m : Memory) (k : ℕ) (s : List ℕ) → IsHeap m.heap → text_at (view_world m) (Some k) ≡ Found s → HasText m.heap k s
has_text m k s ok e = go (at m.heap k) refl (sym (ap (λ o. or_wrong dead_address o >>= text_in) (at_view m.tables m.heap k ok)) ∙ e)
  where
    go : (o : Option Block) → at m.heap k ≡ o → (or_wrong dead_address (option_map (λ b. view_shape m.tables (shape_of b)) (at m.heap k)) >>= text_in) ≡ Found s → HasText m.heap k s
    go None is e =
        let a : Wrong dead_address ≡ Found s = sym (ap (λ o. or_wrong dead_address (option_map (λ b. view_shape m.tables (shape_of b)) o) >>= text_in) is) ∙ e in absurd cc
    go (Some b) is e =
        let a : text_in (block_by m.tables b.kind b.content) ≡ Found s =
        sym (ap (λ o. or_wrong dead_address (option_map (λ b. view_shape m.tables (shape_of b)) o) >>= text_in) is) ∙ e in
        let h = is_string m.tables b.kind b.content s a in
        record {
          block = b;
          live = is;
          kind = h.kind;
          content = kept_compact b.content s (sym (ap (λ k. is_proper k b.content) h.kind) ∙ m.proper k b is) h.numbers;
        }

-- ---- the first string of two

pub left_text_is : (o : Object) (x : World) (p : view.Process) (i : Inst) (m : Middle) → strings.left_text o x p i m ≡ (left_reference x p m i.dst >>= text_at x)
left_text_is o x p i middle.None = go (spot x p i.dst)
  where
    go : (a : Access Spot) → (a >>= λ d. reference_at x p d >>= text_at x) ≡ (a >>= reference_at x p >>= text_at x)
    go (Found d) = refl
    go (Wrong n) = refl
    go (Raises text) = refl
left_text_is o x p i (middle.Imm n) = refl
left_text_is o x p i (middle.Fp byte) = refl
left_text_is o x p i (middle.Mp byte) = refl

-- ---- what is given then

module _ (x : World) (q : view.Process) (d : Spot) where
  abbrev giving : Access (List ℕ) → Access Does
  giving b = as_block b >>= λ b. store (with_block x b) q d (Refer (Some (next_serial x))) >>= λ m. Found (next m)

  giving_none : (h : Halt) (b : Access (List ℕ)) → Halts h b → Halts h (giving b)
  giving_none h b e =
      halts_on h (as_block b) (λ b. store (with_block x b) q d (Refer (Some (next_serial x))) >>= λ m. Found (next m))
      (halts_on h b (λ t. Found (Text t)) e)

  pub gives_found : (b : Access (List ℕ)) (t : List ℕ) → (reference_at x q d >>= λ old. b) ≡ Found t →
      gives_block_at x q d (as_block b) ≡ gives_block_at x q d (Found (Text t))
  gives_found b t e = go (reference_at x q d) e
    where
      go : (a : Access (Option ℕ)) → (a >>= λ old. b) ≡ Found t → (a >>= λ old. giving b) ≡ (a >>= λ old. giving (Found t))
      go (Found r) e = ap giving e
      go (Wrong n) e = absurd cc
      go (Raises text) e = absurd cc

  pub gives_none : (h : Halt) (b : Access (List ℕ)) → Halts h (reference_at x q d >>= λ old. b) → Halts h (gives_block_at x q d (as_block b))
  gives_none h b e = go (reference_at x q d) e
    where
      go : (a : Access (Option ℕ)) → Halts h (a >>= λ old. b) → Halts h (a >>= λ old. giving b)
      go (Found r) e = giving_none h b e
      go (Wrong n) e = halts_on h (Wrong n) (λ (t : List ℕ). giving (Found t)) e
      go (Raises text) e = halts_on h (Raises text) (λ (t : List ℕ). giving (Found t)) e

  pub changes_found : (f : List ℕ → Access (List ℕ)) (t : List ℕ) → (reference_at x q d >>= text_at x >>= f) ≡ Found t →
      (reference_at x q d >>= text_at x >>= λ s. gives_block_at x q d (as_block (f s))) ≡ gives_block_at x q d (Found (Text t))
  changes_found f t e = go (reference_at x q d >>= text_at x) e
    where
      go : (a : Access (List ℕ)) → (a >>= f) ≡ Found t → (a >>= λ s. gives_block_at x q d (as_block (f s))) ≡ gives_block_at x q d (Found (Text t))
      go (Found s) e = ap (λ b. gives_block_at x q d (as_block b)) e
      go (Wrong n) e = absurd cc
      go (Raises text) e = absurd cc

  pub changes_none : (h : Halt) (f : List ℕ → Access (List ℕ)) → Halts h (reference_at x q d >>= text_at x >>= f) →
      Halts h (reference_at x q d >>= text_at x >>= λ s. gives_block_at x q d (as_block (f s)))
  changes_none h f e = go (reference_at x q d) refl e
    where
      go : (a : Access (Option ℕ)) → reference_at x q d ≡ a → Halts h (a >>= text_at x >>= f) → Halts h (a >>= text_at x >>= λ s. gives_block_at x q d (as_block (f s)))
      go (Found r) is e = among (text_at x r) e
        where
          among : (a : Access (List ℕ)) → Halts h (a >>= f) → Halts h (a >>= λ s. gives_block_at x q d (as_block (f s)))
          among (Found s) e = halts_same h (giving (f s)) (gives_block_at x q d (as_block (f s))) (ap (λ a. a >>= λ old. giving (f s)) is) (giving_none h (f s) e)
          among (Wrong n) e = halts_on h (Wrong n) (λ s. gives_block_at x q d (as_block (f s))) e
          among (Raises text) e = halts_on h (Raises text) (λ s. gives_block_at x q d (as_block (f s))) e
      go (Wrong n) is e = halts_on h (Wrong n) (λ s. gives_block_at x q d (as_block (f s))) e
      go (Raises text) is e = halts_on h (Raises text) (λ s. gives_block_at x q d (as_block (f s))) e
