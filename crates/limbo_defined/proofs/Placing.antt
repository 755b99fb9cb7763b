-- Where the names of functions stand.
use Rattle.std.proofs.Common.{◌≡◌, ℕ, List, [], ◌∷◌, Option, None, Some, IfSome, Vec, Global, refl, sym, subst}
use Rattle.std.specs.Prelude.{slice_get, option_copied}
use Rattle.std.specs.Borrow.{Bor}
use Rattle.std.specs.List.{Contains}
use Rattle.inf_text.specs.declared.span.Span.{Span}
use Rattle.limbo_tree.specs.declared.name.Name as code_name
use Rattle.limbo_tree.specs.declared.decl.Member as code_member
use Rattle.limbo_tree.specs.declared.decl.Member.TheVariants as make
use Rattle.limbo_tree.specs.declared.decl.Variant as code_variant
use Rattle.limbo_declarations.specs.declared.row.Row as code_row
use Rattle.limbo_includes.proofs.Lists.{contains_here}
use Rattle.limbo_defined.specs.Places.{own_names, NamesInside, itself, inside, NamesInner, NamesNested}
use Rattle.limbo_defined.proofs.Holding.{only_one}

pub first_among : (ns : List code_name.Name) (o : Option (Bor code_name.Name)) → option_copied o ≡ slice_get ns 0
    → IfSome o (λ n. Contains ns n.now)
first_among ns None e = tt
first_among [] (Some n) e = absurd cc
first_among (x ∷ ns) (Some n) e = let s : x ≡ n.now = cc in subst (λ (z : code_name.Name). Contains (x ∷ ns) z) s (contains_here x ns)

-- the member that is the only one, among others
same_member : (m k : code_member.Member) (ms zs : List code_member.Member) → Contains ms m → Contains zs k → zs ≡ m ∷ [] → Contains ms k
same_member m k ms zs c d e =
    subst (λ (z : code_member.Member). Contains ms z) (only_one m k (subst (λ (z : List code_member.Member). Contains z k) e d)) c

inside_of : (n : code_name.Name) (zs : List code_member.Member) → NamesInside n zs
    → (m : code_member.Member) (ms : List code_member.Member) → Contains ms m → zs ≡ m ∷ [] → NamesInside n ms
inside_of n _ (itself zs k d h) m ms c e = itself ms k (same_member m k ms zs c d e) h
inside_of n _ (inside zs adt inner pick at d h) m ms c e = inside ms adt inner pick at
    (same_member m (make.Adt adt inner pick at) ms zs c d e) h

pub inside_among : (n : code_name.Name) (m : code_member.Member) (ms : List code_member.Member) → Contains ms m → NamesInside n (m ∷ [])
    → NamesInside n ms
inside_among n m ms c h = inside_of n (m ∷ []) h m ms c refl

pub inner_among : (n : code_name.Name) (m : code_member.Member) (ms : List code_member.Member) → Contains ms m → NamesInner n (m ∷ [])
    → NamesInner n ms
inner_among n m ms c h = record {
  adt = h.adt;
  inner = h.inner;
  pick = h.pick;
  at = h.at;
  there = same_member m (make.Adt h.adt h.inner h.pick h.at) ms (m ∷ []) c h.there refl;
  names = h.names;
}

pub nested_among : (n : code_name.Name) (path : Bor (List ℕ)) (r : code_row.Row) (rs : List code_row.Row) → Contains rs r
    → NamesNested n path (r ∷ []) → NamesNested n path rs
nested_among n path r rs c h = record {
  in_row = h.in_row;
  members = h.members;
  pick = h.pick;
  there = subst (λ (z : code_row.Row). Contains rs z) (only_one r h.in_row h.there) c;
  in_text = h.in_text;
  is_adt = h.is_adt;
  names = h.names;
}

-- a function's name, and one in an adt
pub own_inside : (m : code_member.Member) (all : List code_name.Name) (n : code_name.Name) → own_names m ≡ all → Contains all n
    → NamesInside n (m ∷ [])
own_inside m all n e c = itself (m ∷ []) m (contains_here m []) (subst (λ (z : List code_name.Name). Contains z n) (sym e) c)

module _
    (m : code_member.Member) (a : code_name.Name) (ms : Vec code_member.Member Global) (pick : Option (Vec code_variant.Variant Global))
    (at : Span) (is : m ≡ make.Adt a ms pick at)
    (n : code_name.Name) (all : List code_member.Member) (e : all ≡ ms.items) (h : NamesInside n all)
  where
    there : Contains (m ∷ []) (make.Adt a ms pick at)
    there = subst (λ (z : code_member.Member). Contains (m ∷ []) z) is (contains_here m [])

    names : NamesInside n ms.items
    names = subst (λ (z : List code_member.Member). NamesInside n z) e h

    pub adt_inside : NamesInside n (m ∷ [])
    adt_inside = inside (m ∷ []) a ms pick at there names

    pub adt_inner : NamesInner n (m ∷ [])
    adt_inner = record { adt = a; inner = ms; pick = pick; at = at; there = there; names = names }
