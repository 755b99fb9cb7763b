-- Steps of the walks that add data.
use Rattle.std.proofs.Common.{◌≡◌, ℕ, pos, true, None, codes, ◌+◌, ◌<◌, ◌≤◌, List, [], ◌∷◌, ◌++◌, map, drop, length, get_or, sym, ap, ◌∙◌}
use Rattle.std.proofs.Common.{subst, arith}
use Rattle.std.proofs.lemmas.List.{at_drop_more}
use Rattle.limbo_values.specs.declared.number.Kind.{Kind}
use Rattle.slot_code.specs.declared.code.Inst as code_inst
use Rattle.slot_code.specs.declared.code.SlotFn.{SlotFn}
use Rattle.slot_code.specs.declared.code.GlobalVariable as code_global
use Rattle.slot_code.specs.Code.{Function, GlobalVariable}
use Rattle.slot_code.specs.View.{view_inst, view_function, view_global}
use Rattle.dis_objects.specs.declared.module_data.Data.{Data}
use Rattle.dis_objects.specs.Frames.{Callee, made_by, all_bytes, most_bytes}
use Rattle.dis_objects.specs.Code.{Datum, data_bytes, data_of, insts_data, globals_bytes, global_bytes}
use Rattle.dis_objects.specs.Objects.{function_data, functions_data, global_items, globals_items, global_words, globals_words, string_item}
use Rattle.dis_objects.specs.Objects.{items_from, data_words}
use Rattle.dis_objects.specs.Growing.{Grows, GrowsBy}
use Rattle.dis_objects.proofs.Growing.{grows_both, grows_more, grows_none, bytes_append}
use Rattle.dis_objects.proofs.Walks.{bytes_most}

-- The data of the instructions that are left begin with those of the next.
pub data_next : (fs : List Function) (a : Kind) (cs : List Callee) (is : List code_inst.Inst) (k : ℕ) (i : code_inst.Inst) → k < length is →
    i ≡ get_or is k i →
    insts_data fs a cs (map view_inst (drop k is)) ≡ data_of fs a cs (view_inst i) ++ insts_data fs a (made_by cs (view_inst i))
    (map view_inst (drop (k + 1) is))
data_next fs a cs is k i lt e =
    at_drop_more (λ xs. insts_data fs a cs (map view_inst xs)) is k i lt
    ∙ ap (λ j. data_of fs a cs (view_inst j) ++ insts_data fs a (made_by cs (view_inst j)) (map view_inst (drop (k + 1) is))) (sym e)

pub most_rest : (fs : List Function) (cs : List Callee) (is : List code_inst.Inst) (k : ℕ) (i : code_inst.Inst) → k < length is →
    i ≡ get_or is k i →
    most_bytes fs (made_by cs (view_inst i)) (map view_inst (drop (k + 1) is)) ≤ most_bytes fs cs (map view_inst (drop k is))
most_rest fs cs is k i lt e =
    let at = at_drop_more (λ xs. most_bytes fs cs (map view_inst xs)) is k i lt in
    let same = ap (λ j. most_bytes fs (made_by cs (view_inst j)) (map view_inst (drop (k + 1) is))) e in
    omega (arith, at, same)

-- What the next instruction makes ready, and what is ready in front of it, have room.
pub next_small : (fs : List Function) (cs : List Callee) (is : List code_inst.Inst) (k : ℕ) (i : code_inst.Inst) (n : ℕ) → k < length is →
    i ≡ get_or is k i →
    most_bytes fs cs (map view_inst (drop k is)) ≤ n → (all_bytes fs cs ≤ n) × (all_bytes fs (made_by cs (view_inst i)) ≤ n)
next_small fs cs is k i n lt e h =
    let here = bytes_most fs cs (map view_inst (drop k is)) in
    let r = most_rest fs cs is k i lt e in
    let b = bytes_most fs (made_by cs (view_inst i)) (map view_inst (drop (k + 1) is)) in
    (omega (arith, here, h), omega (arith, r, b, h))

module _ (start old new : Data) (whole : List Datum) where
  -- The whole is added in the end, as before some more data.
  pub grows_next : (left ds es : List Datum) → left ≡ ds ++ es → GrowsBy old new ds →
      ((d : Data) → GrowsBy old d left → GrowsBy start d whole) → (d : Data) → GrowsBy new d es → GrowsBy start d whole
  grows_next left ds es e g inv d h = inv d (subst (λ xs. GrowsBy old d xs) (sym e) (grows_more old new d ds es g h))

pub places_next : (at next whole : ℕ) (left ds es : List Datum) → left ≡ ds ++ es → next ≡ at + data_bytes ds →
    at + data_bytes left ≡ whole → next + data_bytes es ≡ whole
places_next at next whole left ds es e n w = let a = ap data_bytes e in let b = bytes_append ds es in omega (arith, a, b, n, w)

pub functions_next : (all : List Function) (fs : List SlotFn) (k : ℕ) (f : SlotFn) → k < length fs → f ≡ get_or fs k f →
    functions_data all (map view_function (drop k fs)) ≡ function_data all (view_function f) ++ functions_data all
    (map view_function (drop (k + 1) fs))
functions_next all fs k f lt e =
    at_drop_more (λ xs. functions_data all (map view_function xs)) fs k f lt
    ∙ ap (λ g. function_data all (view_function g) ++ functions_data all (map view_function (drop (k + 1) fs))) (sym e)

-- ---- variables

-- What a list of variables adds.
abbrev pub Adds : Data → Data → List GlobalVariable → Type 0
Adds a b gs = Grows a b (globals_items a.place gs) (globals_words gs) (globals_bytes gs)

-- What is read past the end.
abbrev pub nothing : code_global.GlobalVariable
nothing = record { kind = None; initial = pos 0 }

pub globals_next : (vs : List code_global.GlobalVariable) (k : ℕ) → k < length vs →
    map view_global (drop k vs) ≡ view_global (get_or vs k nothing) ∷ map view_global (drop (k + 1) vs)
globals_next vs k lt = at_drop_more (λ xs. map view_global xs) vs k nothing lt

pub adds_next : (start old new : Data) (whole left gs : List GlobalVariable) (g : GlobalVariable) → left ≡ g ∷ gs →
    Grows old new (global_items old.place g) (global_words g.kind) (global_bytes g.kind) →
    ((d : Data) → Adds old d left → Adds start d whole) → (d : Data) → Adds new d gs → Adds start d whole
adds_next start old new whole left gs g e one inv d h =
    let h' : Grows new d (globals_items (old.place + global_bytes g.kind) gs) (globals_words gs) (globals_bytes gs) = subst
    (λ p. Grows new d (globals_items p gs) (globals_words gs) (globals_bytes gs)) one.place_is h in
    inv d (subst (λ xs. Adds old d xs) (sym e) (grows_both old new d _ _ _ _ _ _ one h'))

-- Where nothing is left, the whole is added.
pub grows_all : (start old : Data) (whole left : List Datum) → left ≡ [] → ((d : Data) → GrowsBy old d left → GrowsBy start d whole) →
    GrowsBy start old whole
grows_all start old whole left e inv = inv old (subst (λ xs. GrowsBy old old xs) (sym e) (grows_none old))

pub adds_all : (start old : Data) (whole left : List GlobalVariable) → left ≡ [] → ((d : Data) → Adds old d left → Adds start d whole) →
    Adds start old whole
adds_all start old whole left e inv = inv old (subst (λ xs. Adds old old xs) (sym e) (grows_none old))

-- ---- the whole

module _ (gs : List GlobalVariable) (ds : List Datum) (a b c : Data) (ia : a.items.items ≡ string_item 0 (codes "$Sys") ∷ [])
    (wa : a.words.items ≡ true ∷ true ∷ []) (pa : a.place ≡ 8) (g : Adds a b gs) (h : GrowsBy b c ds) where
  second : b.place ≡ 8 + globals_bytes gs
  second = let p = g.place_is in omega (arith, p, pa)

  pub filled_items : c.items.items ≡ string_item 0 (codes "$Sys") ∷ (globals_items 8 gs ++ items_from (8 + globals_bytes gs) ds)
  filled_items =
      h.items_are
      ∙ ap (λ xs. xs ++ items_from b.place ds) (g.items_are ∙ ap (λ xs. xs ++ globals_items a.place gs) ia)
      ∙ ap (λ p. string_item 0 (codes "$Sys") ∷ (globals_items p gs ++ items_from b.place ds)) pa
      ∙ ap (λ p. string_item 0 (codes "$Sys") ∷ (globals_items 8 gs ++ items_from p ds)) second

  pub filled_words : c.words.items ≡ true ∷ true ∷ (globals_words gs ++ data_words ds)
  filled_words = h.words_are ∙ ap (λ ws. ws ++ data_words ds) (g.words_are ∙ ap (λ ws. ws ++ globals_words gs) wa)

  pub filled_place : c.place ≡ 8 + globals_bytes gs + data_bytes ds
  filled_place = let p = h.place_is in let q = second in omega (arith, p, q)
