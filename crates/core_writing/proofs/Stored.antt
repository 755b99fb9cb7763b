-- The elements of an initialiser, one by one.
use Rattle.std.proofs.Common.{◌≡◌, ℕ, ℤ, zero, suc, ◌<◌, ◌≤◌, ◌+◌, Bool, true, false, List, [], ◌∷◌, ◌++◌, drop, length, get_or, refl, sym}
use Rattle.std.proofs.Common.{ap, ◌∙◌}
use Rattle.std.proofs.Common.{arith, add-one, append_assoc}
use Rattle.std.specs.Prelude.{max, unsigned_abs, if◌then◌else◌}
use Rattle.std.proofs.Math.Seq.{drop-cons}
use Rattle.std.proofs.lemmas.List.{append-nil}
use Rattle.limbo_types.specs.Types.{Ty}
use Rattle.limbo_layout.specs.Adts.{Def}
use Rattle.limbo_typed.specs.Typed as typed
use Rattle.limbo_typed.specs.declared.expr.Item as code_item
use Rattle.limbo_typed.specs.View.{view_expr}
use Rattle.limbo_typed.proofs.View.{view_item-out}
use Rattle.limbo_meaning.specs.Trees.{Term, Terms, Items, Fill}
use Rattle.limbo_meaning.specs.Evaluation.{may_hold}
use Rattle.limbo_meaning.specs.Program.{long_enough, term_of}
use Rattle.limbo_meaning.specs.Program as program
use Rattle.core_code.specs.Code.{Element}
use Rattle.core_code.specs.Terms.{Lowered, lower, lower_items, lower_rest, items_end, rest_end, named, others}
use Rattle.core_frames.specs.Sizes.{expr_size, optional_size, held_size, greatest, rest_alone}
use Rattle.core_frames.proofs.Nodes.{slots_are_few}
use Rattle.core_parts.specs.Nodes.{stored, filled}
use Rattle.core_writing.specs.Initialisers.{view_items, all_stored, none_stored, held, alone}

pub item_next : (is : List code_item.Item) (i : ℕ) (x : code_item.Item) → i < length is → x ≡ get_or is i x
    → view_items (drop i is) ≡ typed.MoreItems x.index (view_expr x.value) (view_items (drop (i + 1) is))
item_next is i x below at =
    rw (drop-cons is i x below ∙ ap (λ y. y ∷ drop (suc i) is) (sym at) ∙ ap (λ k. x ∷ drop k is) (sym (add-one i)), view_item-out x) refl

pub indices_on : (defs : List Def) (is : List code_item.Item) (i : ℕ) (x : code_item.Item) (z : ℤ) (zs next : List ℤ) → i < length is
    → x ≡ get_or is i x → z ≡ x.index → next ≡ zs ++ z ∷ []
    → next ++ named defs (program.items_of (view_items (drop (i + 1) is))) ≡ zs ++ named defs (program.items_of (view_items (drop i is)))
indices_on defs is i x z zs next below at ez e =
    rw (e, ez, item_next is i x below at) (append_assoc zs (x.index ∷ []) (named defs (program.items_of (view_items (drop (i + 1) is)))))

pub long_on : (is : List code_item.Item) (i : ℕ) (x : code_item.Item) (n own next : ℕ) → i < length is → x ≡ get_or is i x
    → own ≡ suc (unsigned_abs x.index) → next ≡ max n own
    → max next (long_enough (view_items (drop (i + 1) is))) ≡ max n (long_enough (view_items (drop i is)))
long_on is i x n own next below at eo e =
    rw (e, eo, item_next is i x below at) (omega arith)

-- ---- where shared slots end

shared_least : (defs : List Def) (shared : ℕ) (is : typed.Items) → shared ≤ items_end defs shared (program.items_of is)
shared_least defs shared typed.NoItems = omega arith
shared_least defs shared (typed.MoreItems i e is) = let a = shared_least defs shared is in omega (arith, a)

pub ends_begin : (defs : List Def) (shared : ℕ) (is : typed.Items)
    → max shared (items_end defs shared (program.items_of is)) ≡ items_end defs shared (program.items_of is)
ends_begin defs shared is = let a = shared_least defs shared is in omega (arith, a)

pub ends_on : (defs : List Def) (shared : ℕ) (is : List code_item.Item) (i : ℕ) (x : code_item.Item) (end next : ℕ) → i < length is
    → x ≡ get_or is i x
    → next ≡ max end (if may_hold defs (term_of (view_expr x.value)) then shared else (lower defs shared (term_of
    (view_expr x.value))).free)
    → max next (items_end defs shared (program.items_of (view_items (drop (i + 1) is))))
    ≡ max end (items_end defs shared (program.items_of (view_items (drop i is))))
ends_on defs shared is i x end next below at e = rw (e, item_next is i x below at) (omega arith)

-- ---- elements behind those that are stored

pub stored_none : (defs : List Def) (t : Ty) (shared : ℕ) (l : Lowered) → all_stored defs t shared l (program.items_of typed.NoItems) ≡ l
stored_none defs t shared l = rw (append-nil l.code, append-nil l.drops) refl

pub stored_on : (defs : List Def) (t : Ty) (shared : ℕ) (is : List code_item.Item) (i : ℕ) (x : code_item.Item) (held : Bool)
    (l next a : Lowered) → i < length is → x ≡ get_or is i x → held ≡ may_hold defs (term_of (view_expr x.value))
    → a ≡ lower defs (if held then l.free else shared) (term_of (view_expr x.value)) → next ≡ stored t x.index held l a
    → all_stored defs t shared next (program.items_of (view_items (drop (i + 1) is)))
    ≡ all_stored defs t shared l (program.items_of (view_items (drop i is)))
stored_on defs t shared is i x held l next a below at eh ea en =
    let e = term_of (view_expr x.value) in
    let b = may_hold defs e in
    let m = lower defs (if b then l.free else shared) e in
    let y = lower_items defs t l.value shared (if b then m.free else l.free) (program.items_of (view_items (drop (i + 1) is))) in
    rw (
      en,
      ea,
      eh,
      item_next is i x below at,
      append_assoc l.code (m.code ++ Element t l.value x.index m.value ∷ []) y.code,
      append_assoc m.code (Element t l.value x.index m.value ∷ []) y.code,
      append_assoc l.drops m.drops y.drops,
    ) refl

value_is : (defs : List Def) (t : Ty) (a shared lo : ℕ) (is : typed.Items)
    → (lower_items defs t a shared lo (program.items_of is)).value ≡ a
value_is defs t a shared lo typed.NoItems = refl
value_is defs t a shared lo (typed.MoreItems i e is) = refl

pub stored_begin : (defs : List Def) (t : Ty) (a shared lo : ℕ) (is : typed.Items)
    → all_stored defs t shared (none_stored a lo) (program.items_of is) ≡ lower_items defs t a shared lo (program.items_of is)
stored_begin defs t a shared lo typed.NoItems = refl
stored_begin defs t a shared lo (typed.MoreItems i e is) = refl

-- ---- what they count

item_behind : (defs : List Def) (is : List code_item.Item) (n : ℕ)
    → (held_size defs (view_items (drop n is)) ≤ held_size defs (view_items is)) × (greatest defs (view_items
    (drop n is)) ≤ greatest defs (view_items is))
item_behind defs is zero = (omega arith, omega arith)
item_behind defs [] (suc n) = (omega arith, omega arith)
item_behind defs (x ∷ is) (suc n) =
    let a = item_behind defs is n in
    let h = ap (held_size defs) (item_next (x ∷ is) 0 x (omega arith) refl) in
    let g = ap (greatest defs) (item_next (x ∷ is) 0 x (omega arith) refl) in
    (omega (arith, a.0, h), omega (arith, a.1, g))

pub held_all : (defs : List Def) (is : List code_item.Item) (n : ℕ)
    → held_size defs (view_items (drop n is)) ≤ held_size defs (view_items is)
held_all defs is n = (item_behind defs is n).0

pub greatest_all : (defs : List Def) (is : List code_item.Item) (n : ℕ)
    → greatest defs (view_items (drop n is)) ≤ greatest defs (view_items is)
greatest_all defs is n = (item_behind defs is n).1

pub held_next : (defs : List Def) (is : List code_item.Item) (i : ℕ) (x : code_item.Item) → i < length is → x ≡ get_or is i x
    → held_size defs (view_items (drop i is)) ≡ held defs (view_expr x.value) + held_size defs (view_items (drop (i + 1) is))
held_next defs is i x below at = ap (held_size defs) (item_next is i x below at)

pub greatest_next : (defs : List Def) (is : List code_item.Item) (i : ℕ) (x : code_item.Item) → i < length is → x ≡ get_or is i x
    → alone defs (view_expr x.value) ≤ greatest defs (view_items (drop i is))
greatest_next defs is i x below at = let g = ap (greatest defs) (item_next is i x below at) in omega (arith, g)

pub either : (defs : List Def) (e : typed.Expr) → held defs e + alone defs e ≡ expr_size defs e
either defs e = go (may_hold defs (term_of e))
  where
    go : (b : Bool) → (if b then expr_size defs e else 0) + (if b then 0 else expr_size defs e) ≡ expr_size defs e
    go true = omega arith
    go false = omega arith

pub place_fits : (b : Bool) (own shared s most : ℕ) → own + (if b then s else 0) ≤ most → shared + (if b then 0 else s) ≤ most
    → (if b then own else shared) + s ≤ most
place_fits true own shared s most p q = p
place_fits false own shared s most p q = q

pub free_fits : (b : Bool) (own shared s f rest : ℕ) → f ≤ (if b then own else shared) + s
    → (if b then f else own) + rest ≤ own + ((if b then s else 0) + rest)
free_fits true own shared s f rest p = omega (arith, p)
free_fits false own shared s f rest p = omega arith

-- ---- whole initialisers

pub others_held : (defs : List Def) (t : Ty) (a : ℕ) (zs : List ℤ) (shared lo : ℕ) (e : Term) (x l : Lowered) → true ≡ may_hold defs e
    → x ≡ lower defs (lo + 1) e → l ≡ others defs true t a zs lo x → l ≡ lower_rest defs t a zs shared lo (program.only_term e)
others_held defs t a zs shared lo e x l h ex el = rw (el, ex, add-one lo, ← h) refl

pub others_alone : (defs : List Def) (t : Ty) (a : ℕ) (zs : List ℤ) (shared lo : ℕ) (e : Term) (x l : Lowered) → false ≡ may_hold defs e
    → x ≡ lower defs shared e → l ≡ others defs false t a zs lo x → l ≡ lower_rest defs t a zs shared lo (program.only_term e)
others_alone defs t a zs shared lo e x l h ex el = rw (el, ex, ← h) refl

pub fill_made : (defs : List Def) (lo : ℕ) (t : Ty) (k : Term) (is : Items) (rest : Terms) (n es os : Lowered) (shared end : ℕ)
    (zs : List ℤ)
    → n ≡ lower defs lo k → shared ≡ suc n.free → end ≡ max (items_end defs shared is) (rest_end defs shared rest)
    → es ≡ lower_items defs t n.free shared end is → zs ≡ named defs is
    → os ≡ lower_rest defs t n.free zs shared es.free rest → filled t n es os ≡ lower defs lo (Fill t k is rest)
fill_made defs lo t k is rest n es os shared end zs en esh eend ees ez eos = rw (eos, ees, eend, ez, esh, en) refl

pub length_free : (defs : List Def) (lo : ℕ) (k : typed.Optional) (is : typed.Items) (n : Lowered)
    → n ≡ lower defs lo (program.length_term k is) → n.free ≤ suc lo + optional_size defs k
length_free defs lo k is n e =
    let a = slots_are_few.lengths defs lo k is in
    let b = ap (λ (x : Lowered). x.free) e in
    omega (arith, a, b)

pub end_free : (defs : List Def) (shared : ℕ) (is : typed.Items) (rest : typed.Optional) (end : ℕ)
    → end ≡ max (items_end defs shared (program.items_of is)) (rest_end defs shared (program.terms_if rest))
    → end ≤ shared + max (greatest defs is) (rest_alone defs rest)
end_free defs shared is rest end e =
    let a = slots_are_few.shared_items defs shared is in
    let b = slots_are_few.shared_rests defs shared rest in
    omega (arith, a, b, e)

pub items_free : (defs : List Def) (t : Ty) (a shared lo : ℕ) (is : typed.Items) (es : Lowered)
    → es ≡ lower_items defs t a shared lo (program.items_of is) → es.free ≤ lo + held_size defs is
items_free defs t a shared lo is es e =
    let n = slots_are_few.items defs t a shared lo is in
    let b = ap (λ (x : Lowered). x.free) e in
    omega (arith, n, b)
