-- Each scope inside a declaration declares each name once (Limbo Language Reference, scope).
use Rattle.std.specs.Prelude.{ℕ, List, [], ◌∷◌, ◌++◌, Option, None, Some}
use Rattle.limbo_tree.specs.Parts.{names_of_member}
use Rattle.limbo_tree.specs.Decls as decls
use Rattle.limbo_tree.specs.Decls.{Param, FnType, Field, Variant, Member, Members, NoMembers, MoreMembers, Decl}
use Rattle.limbo_declarations.specs.Names.{IsAt, AreOnce}

-- the parameters that have names
abbrev pub present : List (Option (List ℕ)) → List (List ℕ)
present [] = []
present (None ∷ ns) = present ns
present (Some n ∷ ns) = n ∷ present ns

abbrev pub param_names : List Param → List (List ℕ)
param_names [] = []
param_names (p ∷ ps) = present p.names ++ param_names ps

abbrev pub member_names : Members → List (List ℕ)
member_names NoMembers = []
member_names (MoreMembers m ms) = names_of_member m ++ member_names ms

abbrev pub variant_names : List Variant → List (List ℕ)
variant_names [] = []
variant_names (v ∷ vs) = v.names ++ variant_names vs

abbrev pub pick_names : Option (List Variant) → List (List ℕ)
pick_names None = []
pick_names (Some vs) = variant_names vs

abbrev pub field_names : List Field → List (List ℕ)
field_names [] = []
field_names (f ∷ fs) = f.names ++ field_names fs

-- A function's parameters stand in a scope of their own.
abbrev pub FnIsOnce : FnType → Type 0
FnIsOnce f = AreOnce (param_names f.params)

-- No name is in both lists.
abbrev pub AreApart : List (List ℕ) → List (List ℕ) → Type 0
AreApart ns ms = (i j : ℕ) (name : List ℕ) → IsAt ns i name → IsAt ms j name → ⊥

-- A variant's field may have the name of another variant's field, but of no member of the adt.
abbrev pub FieldsAreOnce : (members : List (List ℕ)) → List Variant → Type 0
FieldsAreOnce members [] = Unit {0}
FieldsAreOnce members (v ∷ vs) = AreOnce (field_names v.fields) × AreApart members (field_names v.fields) × FieldsAreOnce members vs

abbrev pub PickIsOnce : (members : List (List ℕ)) → Option (List Variant) → Type 0
PickIsOnce members None = Unit {0}
PickIsOnce members (Some vs) = FieldsAreOnce members vs

abbrev mutual
  -- the scopes inside a member; an adt's members share theirs with the names of its variants
  pub MemberIsOnce : Member → Type 0
  MemberIsOnce (decls.FnMember ns f) = FnIsOnce f
  MemberIsOnce (decls.AdtMember n ms pick) = AreOnce (member_names ms ++ pick_names pick) × PickIsOnce (member_names ms) pick
      × MembersAreOnce ms
  MemberIsOnce _ = Unit {0}

  pub MembersAreOnce : Members → Type 0
  MembersAreOnce NoMembers = Unit {0}
  MembersAreOnce (MoreMembers m ms) = MemberIsOnce m × MembersAreOnce ms

-- An adt: its own scope, and those inside.
abbrev pub AdtIsOnce : Members → Option (List Variant) → Type 0
AdtIsOnce ms pick = AreOnce (member_names ms ++ pick_names pick) × PickIsOnce (member_names ms) pick × MembersAreOnce ms

-- A module: its own scope, and those inside.
abbrev pub ModuleIsOnce : Members → Type 0
ModuleIsOnce ms = AreOnce (member_names ms) × MembersAreOnce ms

-- The scopes inside a declaration.
abbrev pub DeclIsOnce : Decl → Type 0
DeclIsOnce (decls.Module n ms) = ModuleIsOnce ms
DeclIsOnce (decls.Adt n ms pick) = AdtIsOnce ms pick
DeclIsOnce _ = Unit {0}
