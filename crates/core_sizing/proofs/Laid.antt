-- Where variables end that are laid one behind the other: what is laid grows, and only its end is asked.
use Rattle.std.proofs.Common.{◌≡◌, ℕ, zero, suc, ◌+◌, ◌<◌, ◌≤◌, List, [], ◌∷◌, length, get_or, drop, map, refl, sym, ap, ◌∙◌, arith}
use Rattle.std.proofs.lemmas.List.{at_drop_more}
use Rattle.std.specs.Prelude.{slice_index_or}
use Rattle.std.specs.Int.{next_multiple_of}
use Rattle.limbo_types.specs.Types.{Ty}
use Rattle.limbo_types.specs.View.{view_ty}
use Rattle.limbo_layout.specs.Adts.{Def}
use Rattle.limbo_layout.specs.Layout.{Room, nothing, behind, all_behind}
use Rattle.limbo_layout.specs.Laying.{room, rooms_of}
use Rattle.limbo_typed.specs.declared.module.TVar.{TVar}
use Rattle.limbo_typed.specs.View.{view_var}
use Rattle.limbo_meaning.specs.Operations.{size_of}
use Rattle.core_code.specs.Rooms.{rooms_in}
use Rattle.core_frames.specs.Sizes.{laid_size, types_in}

-- the end behind a value of a type
abbrev pub place_for : List Def → (end : ℕ) → Ty → ℕ
place_for defs n t = next_multiple_of n (room (rooms_in defs) t).align

abbrev pub laid_from : List Def → (end : ℕ) → List Ty → ℕ
laid_from defs n [] = n
laid_from defs n (t ∷ ts) = laid_from defs (place_for defs n t + size_of defs t) ts

pub laid_grows : (defs : List Def) (n : ℕ) (ts : List Ty) → n ≤ laid_from defs n ts
laid_grows defs n [] = omega arith
laid_grows defs n (t ∷ ts) = let a = laid_grows defs (place_for defs n t + size_of defs t) ts in omega arith

same_end : (defs : List Def) (w : Room) (ts : List Ty) → laid_from defs w.size ts ≡ (all_behind w (rooms_of (rooms_in defs) ts)).size
same_end defs w [] = refl
same_end defs w (t ∷ ts) = same_end defs (behind w (room (rooms_in defs) t)) ts

pub laid_all : (defs : List Def) (ts : List Ty) → laid_from defs 0 ts ≡ laid_size defs ts
laid_all defs ts = same_end defs nothing ts

-- the next variable
pub laid-next : (defs : List Def) (n : ℕ) (vs : List TVar) (i : ℕ) (v : TVar) → i < length vs → v ≡ get_or vs i v
    → laid_from defs n (types_in (map view_var (drop i vs)))
    ≡ laid_from defs (place_for defs n (view_ty v.ty) + size_of defs (view_ty v.ty)) (types_in (map view_var (drop (i + 1) vs)))
laid-next defs n vs i v l e =
    let rest = drop (i + 1) vs in
    at_drop_more (λ us. laid_from defs n (types_in (map view_var us))) vs i v (omega arith)
    ∙ ap (λ (u : TVar). laid_from defs n (types_in (map view_var (u ∷ rest)))) (sym e)

-- the type of a variable by its number
pub type-found : (vs : List TVar) (n : ℕ) (d : Ty) (v : TVar) → n < length vs → v ≡ get_or vs n v
    → slice_index_or (types_in (map view_var vs)) n d ≡ view_ty v.ty
type-found [] n d v l e = absurd (omega arith)
type-found (u ∷ vs) zero d v l e = ap (λ (x : TVar). view_ty x.ty) (sym e)
type-found (u ∷ vs) (suc n) d v l e = type-found vs n d v (omega arith) e

pub type-none : (vs : List TVar) (n : ℕ) (d : Ty) → length vs ≤ n → slice_index_or (types_in (map view_var vs)) n d ≡ d
type-none [] n d l = refl
type-none (u ∷ vs) zero d l = absurd (omega arith)
type-none (u ∷ vs) (suc n) d l = type-none vs n d (omega arith)
