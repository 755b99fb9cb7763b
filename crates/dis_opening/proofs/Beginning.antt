-- The instance, and what is left in the end.
use Rattle.std.proofs.Common.{◌≡◌, ℕ, zero, suc, ◌+◌, ◌<◌, List, [], ◌∷◌, ◌++◌, map, Some, None, refl, sym, ap, ◌∙◌, subst, arith, if◌then◌else◌}
use Rattle.std.specs.Prelude.{nat_eq, reverse}
use Rattle.std.specs.Option.{option_map}
use Rattle.heap_model.specs.Heap.{Heap, stays}
use Rattle.heap_cuts.specs.Shapes.{shapes_below}
use Rattle.heap_cuts.proofs.Told.{stays_same}
use Rattle.process_model.specs.Process.{Ready}
use Rattle.process_model.specs.Naming.{total}
use Rattle.system_model.specs.World as outer
use Rattle.sys_print.specs.declared.outside.World as code_outer
use Rattle.sys_print.specs.Worlds.{view_world as view_outside}
use Rattle.dis_file.specs.declared.object.Object.{Object}
use Rattle.dis_file.specs.declared.types.TypeDesc.{TypeDesc}
use Rattle.ref_heap.specs.declared.kind.Kind.TheVariants as kind
use Rattle.ref_heap.specs.declared.word.Ref.{Ref}
use Rattle.ref_heap.specs.declared.word.Word as code_word
use Rattle.ref_heap.specs.Drops.{Drops}
use Rattle.ref_heap.specs.Store.{Store, AreHeld, IsHeap, at, count_in, fresh, one, outside, with_new}
use Rattle.ref_heap.specs.Words.{Content, cell_of, cells, naming, wide}
use Rattle.dis_meaning.specs.Counts.{in_words}
use Rattle.dis_meaning.specs.Opening.{entered}
use Rattle.dis_meaning.specs.Process.{Process}
use Rattle.dis_meaning.specs.Words.{Word, Access, Found, Wrong, Raises, ◌>>=◌, blank}
use Rattle.dis_memory.specs.Blocks.{Block, Instance, Outer, World}
use Rattle.dis_memory.specs.Operands.{type_of}
use Rattle.dis_memory.specs.Naming.{inside, naming as language_naming, names}
use Rattle.dis_places.specs.declared.memory.Memory.{Memory}
use Rattle.dis_places.specs.declared.memory.Tables.{Tables}
use Rattle.dis_places.specs.Blocks.{block_by, view_heap, view_shape, words_of, AreProper}
use Rattle.dis_places.specs.View.{view_world}
use Rattle.dis_places.specs.Words.{view_words}
use Rattle.dis_blocks.proofs.Bare.{as_cells, blank_named}
use Rattle.dis_blocks.proofs.Made.{new_proper, view_new}
use Rattle.dis_stores.proofs.Cuts.{view_cut}
use Rattle.dis_stores.proofs.Named.{cells_named}
use Rattle.dis_serials.specs.Given.{HasGiven}
use Rattle.dis_counts.specs.Opening as meaning
use Rattle.dis_opening.specs.declared.loading.Base.{Base}
use Rattle.dis_opening.specs.declared.loading.Loading.{Loading}
use Rattle.dis_opening.specs.Loading.{view_base, IsExact}
use Rattle.dis_opening.specs.Opening.{begun, IsSettled}

-- What the first process refers to is the instance alone.
first_one : (n : ℕ) → (if nat_eq 0 n then 1 else 0) ≡ one 0 n
first_one zero = refl
first_one (suc n) = refl

blank_bare : (desc : TypeDesc) (ws : List code_word.Word) → view_words ws ≡ blank desc → (n : ℕ) → in_words n (view_words ws) ≡ 0
blank_bare desc ws e n = ap (in_words n) (sym (as_cells ws)) ∙ cells_named (map cell_of ws) n ∙ blank_named desc ws e n

entered_names : (o : Object) (words : List Word) → ((n : ℕ) → in_words n words ≡ 0) → (n : ℕ) → names (entered o words) n ≡ one 0 n
entered_names o words bare n = let b = bare n in let f = first_one n in omega (arith, b, f)

-- The words of a type, where it is there.
pub typed_bare : (a : Access TypeDesc) (ws : List code_word.Word) → (a >>= λ desc. Found (blank desc)) ≡ Found (view_words ws) →
    (n : ℕ) → naming (map cell_of ws) n ≡ 0
typed_bare (Found desc) ws e = let same : blank desc ≡ view_words ws = cc in blank_named desc ws (sym same)
typed_bare (Wrong n) ws e = absurd cc
typed_bare (Raises text) ws e = absurd cc

pub typed_names : (o : Object) (a : Access TypeDesc) (ws : List code_word.Word) → (a >>= λ desc. Found (blank desc)) ≡ Found (view_words ws) →
    (n : ℕ) → names (entered o (view_words ws)) n ≡ one 0 n
typed_names o (Found desc) ws e = let same : blank desc ≡ view_words ws = cc in entered_names o (view_words ws) (blank_bare desc ws (sym same))
typed_names o (Wrong n) ws e = absurd cc
typed_names o (Raises text) ws e = absurd cc

-- What is found, put together.
pub opened_so : (o : Object) (ws fs : List Word) (l : meaning.Loading) → (type_of o 0 >>= λ desc. Found (blank desc)) ≡ Found ws →
    (type_of o o.entry_type >>= λ desc. Found (blank desc)) ≡ Found fs → meaning.with_items o (begun ws) o.items ≡ Found l →
    meaning.opened o ≡ Found (meaning.opens l.world (entered o fs))
opened_so o ws fs l first frame items = go (type_of o 0) refl first
  where
    frames : (type : TypeDesc) → blank type ≡ ws → (a : Access TypeDesc) → (a >>= λ desc. Found (blank desc)) ≡ Found fs →
        (a >>= λ frame_type. meaning.with_items o (begun (blank type)) o.items >>= λ l. Found (meaning.opens l.world (entered o (blank frame_type))))
        ≡ Found (meaning.opens l.world (entered o fs))
    frames type is (Found desc) e =
        let same : blank desc ≡ fs = cc in
        ap (λ ws. meaning.with_items o (begun ws) o.items >>= λ l. Found (meaning.opens l.world (entered o (blank desc)))) is
        ∙ ap (λ a. a >>= λ l. Found (meaning.opens l.world (entered o (blank desc)))) items
        ∙ ap (λ fs. Found (meaning.opens l.world (entered o fs))) same
    frames type is (Wrong n) e = absurd cc
    frames type is (Raises text) e = absurd cc

    go : (a : Access TypeDesc) → type_of o 0 ≡ a → (a >>= λ desc. Found (blank desc)) ≡ Found ws → meaning.opened o ≡ Found (meaning.opens l.world (entered o fs))
    go (Found type) is e =
        let same : blank type ≡ ws = cc in
        ap (λ a. a >>= λ type. type_of o o.entry_type >>= λ frame_type. meaning.with_items o (begun (blank type)) o.items >>=
        λ l. Found (meaning.opens l.world (entered o (blank frame_type)))) is
        ∙ frames type same (type_of o o.entry_type) frame
    go (Wrong n) is e = absurd cc
    go (Raises text) is e = absurd cc

-- ---- the instance

pub bare_given : (h : Store) (given : ℕ → ℕ) → ((n : ℕ) → given n ≡ 0) → AreHeld h given
bare_given h given bare n = let b = bare n in omega (arith, b)

no_blocks : (t : Tables) (h : Store) → h.made ≡ 0 → view_heap t h ≡ []
no_blocks t h e = ap (λ n. map (option_map (view_shape t)) (shapes_below n (at h))) e

pub begun_proper : (h h' : Store) (c : Content) → ((n : ℕ) → at h n ≡ None) → h' ≡ with_new h (fresh (kind.Instance 0) c) → AreProper h'
begun_proper h h' c none e =
    subst AreProper (sym e) (new_proper h (kind.Instance 0) c (λ n b is. let a : None ≡ Some b = sym (none n) ∙ is in absurd cc) refl)

abbrev begins : Heap Block → (serial : ℕ) → List meaning.Into → outer.World → meaning.Loading
begins h s back o = meaning.loading (record { heap = h; outside = record { frames = 1; outside = o } }) (record { serial = s; from = 0 }) back

pub begun_so : (t : Tables) (h h' : Store) (ws : List code_word.Word) (c : Content) (r : Ref) (back : List Base) (o : code_outer.World) →
    h.made ≡ 0 → c ≡ wide (map cell_of ws) → h' ≡ with_new h (fresh (kind.Instance 0) c) → r.serial ≡ h.made → back ≡ [] → view_outside o ≡ outer.opening_world →
    begins (view_heap t h') r.serial (reverse (map view_base back)) (view_outside o) ≡ begun (view_words ws)
begun_so t h h' ws c r back o made kept new serial none outside_is =
    let heap : view_heap t h' ≡ Some (Instance 0 (view_words ws)) ∷ [] =
    ap (view_heap t) new ∙ view_new t h (kind.Instance 0) c
    ∙ ap (λ hs. hs ++ Some (block_by t (kind.Instance 0) c) ∷ []) (no_blocks t h made)
    ∙ ap (λ c. Some (Instance 0 (words_of c)) ∷ []) kept
    ∙ ap (λ ws. Some (Instance 0 ws) ∷ []) (as_cells ws) in
    ap (λ hs. begins hs r.serial (reverse (map view_base back)) (view_outside o)) heap
    ∙ ap (λ n. begins (Some (Instance 0 (view_words ws)) ∷ []) n (reverse (map view_base back)) (view_outside o)) (serial ∙ made)
    ∙ ap (λ bs. begins (Some (Instance 0 (view_words ws)) ∷ []) 0 (reverse (map view_base bs)) (view_outside o)) none
    ∙ ap (λ u. begins (Some (Instance 0 (view_words ws)) ∷ []) 0 [] u) outside_is

pub begun_exact : (h h' : Store) (ws : List code_word.Word) (c : Content) (r : Ref) (over : List code_word.Word) →
    h.made ≡ 0 → ((n : ℕ) → at h n ≡ None) → c ≡ wide (map cell_of ws) → ((n : ℕ) → naming (map cell_of ws) n ≡ 0) → r.serial ≡ h.made →
    ((n : ℕ) → outside h' n + naming (cells c) n ≡ outside h n + one r.serial n) → over ≡ [] →
    (n : ℕ) → outside h' n ≡ one 0 n + naming (map cell_of over) n
begun_exact h h' ws c r over made none kept bare serial more empty n =
    let a = more n in
    let b = ap (λ c. naming (cells c) n) kept ∙ bare n in
    let d = ap (λ k. one k n) (serial ∙ made) in
    let e = ap (λ ws. naming (map cell_of ws) n) empty in
    let f = ap count_in (none n) in
    let g : naming (map cell_of []) n ≡ 0 = refl in
    omega (arith, a, b, d, e, f, g)

-- ---- the end

-- All words over which references were put are let go.
pub settled_so : (l : Loading) (h' : Store) (proper : AreProper h') (ws : List code_word.Word) → IsHeap l.memory.heap → ws ≡ l.over.items → IsExact l →
    Drops l.memory.heap h' (naming (map cell_of ws)) → h'.made ≡ l.memory.heap.made →
    ((n : ℕ) → outside h' n + naming (map cell_of ws) n ≡ outside l.memory.heap n) →
    IsSettled l.memory (record { heap = h'; tables = l.memory.tables; frames = l.memory.frames; outside = l.memory.outside; proper = proper })
settled_so l h' proper ws ok is exact drops made out =
    let same : (n : ℕ) → naming (map cell_of ws) n ≡ naming (map cell_of l.over.items) n = (λ n. ap (λ ws. naming (map cell_of ws) n) is) in record {
      held = λ n. let a = out n in let b = exact n in let e = same n in omega (arith, a, b, e);
      heap = view_cut l.memory.tables l.memory.heap h' (naming (map cell_of ws))
          (record { heap = ok; held = λ n. let a = out n in omega (arith, a); drops = drops; made = made }) l.memory.proper;
      outer = refl;
      tables = refl;
    }

-- The cut behind the opening.
pub opens_so : (m m' : Memory) (p : Process) → IsSettled m m' → ((n : ℕ) → names p n ≡ one 0 n) →
    meaning.opens (view_world m) p ≡ record { world = view_world m'; first = p }
opens_so m m' p s named =
    let same : (view_world m').heap ≡ stays inside (total language_naming (Ready p ∷ [])) (view_world m).heap =
    s.heap ∙ stays_same inside (outside m'.heap) (total language_naming (Ready p ∷ [])) (view_world m).heap (λ n. let h = s.held n in let e = named n in omega (arith, h, e)) in
    ap (λ h. let w : World = record { heap = h; outside = (view_world m).outside } in let o : meaning.Opened = record { world = w; first = p } in o) (sym same)
    ∙ ap (λ u. let w : World = record { heap = (view_world m').heap; outside = u } in let o : meaning.Opened = record { world = w; first = p } in o) (sym s.outer)

-- The first frame has the first serial, which was given.
pub entered_given : (x : World) (o : Object) (words : List Word) (p : Process) → p ≡ entered o words → x.outside ≡ (begun words).world.outside → HasGiven x p
entered_given x o words p is e =
    subst (HasGiven x) (sym is)
    (record { running = subst (λ (u : Outer). 0 < u.frames) (sym e) (omega arith); waiting = tt; made = tt })
