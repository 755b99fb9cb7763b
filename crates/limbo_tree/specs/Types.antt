-- Types (Limbo Language Reference, types): their trees, the spelling of each, and how deep each nests.
use Rattle.std.specs.Prelude.{ℕ, ◌+◌, max, List, [], ◌∷◌, Bool, true, false, ◌&&◌, Option, None, Some}
use Rattle.limbo_lexer.specs.declared.token.Kind.{Kind}
use Rattle.limbo_lexer.specs.declared.token.Kind.TheVariants as kind
use Rattle.limbo_lexer.specs.declared.token.Mark.TheVariants as mark
use Rattle.limbo_lexer.specs.declared.token.Key.TheVariants as key
use Rattle.limbo_tree.specs.Tokens.{◌▸◌, ◌▹◌}

-- qual = ID ["->" ID] ["." ID]
pub record Qual : Type 0 where
  pub first : List ℕ
  pub member : Option (List ℕ)
  pub part : Option (List ℕ)

mutual
  pub data Ty : Type 0 where
    Byte : Ty
    Int : Ty
    Big : Ty
    String : Ty
    ArrayOf : Ty → Ty
    ListOf : Ty → Ty
    ChanOf : Ty → Ty
    RefTo : Qual → Ty
    Named : Qual → Ty
    Tuple : Tys → Ty

  pub data Tys : Type 0 where
    NoTys : Tys
    MoreTys : Ty → Tys → Tys

abbrev pub spell_part : Option (List ℕ) → List Kind → List Kind
spell_part None ts = ts
spell_part (Some n) ts = mark.Dot ▸ kind.Name n ∷ ts

abbrev pub spell_member : Option (List ℕ) → List Kind → List Kind
spell_member None ts = ts
spell_member (Some n) ts = mark.Arrow ▸ kind.Name n ∷ ts

abbrev pub spell_qual : Qual → List Kind → List Kind
spell_qual q ts = kind.Name q.first ∷ spell_member q.member (spell_part q.part ts)

abbrev mutual
  pub spell_ty : Ty → List Kind → List Kind
  spell_ty Byte ts = key.Byte ▹ ts
  spell_ty Int ts = key.Int ▹ ts
  spell_ty Big ts = key.Big ▹ ts
  spell_ty String ts = key.String ▹ ts
  spell_ty (ArrayOf t) ts = key.Array ▹ key.Of ▹ spell_ty t ts
  spell_ty (ListOf t) ts = key.List ▹ key.Of ▹ spell_ty t ts
  spell_ty (ChanOf t) ts = key.Chan ▹ key.Of ▹ spell_ty t ts
  spell_ty (RefTo q) ts = key.Ref ▹ spell_qual q ts
  spell_ty (Named q) ts = spell_qual q ts
  spell_ty (Tuple tys) ts = mark.OpenParen ▸ spell_tys tys (mark.CloseParen ▸ ts)

  -- type {"," type}
  pub spell_tys : Tys → List Kind → List Kind
  spell_tys NoTys ts = ts
  spell_tys (MoreTys t tys) ts = spell_ty t (spell_more_tys tys ts)

  -- {"," type}
  pub spell_more_tys : Tys → List Kind → List Kind
  spell_more_tys NoTys ts = ts
  spell_more_tys (MoreTys t tys) ts = mark.Comma ▸ spell_ty t (spell_more_tys tys ts)

-- the greatest number of types on one path from the root
abbrev mutual
  pub ty_nesting : Ty → ℕ
  ty_nesting (ArrayOf t) = 1 + ty_nesting t
  ty_nesting (ListOf t) = 1 + ty_nesting t
  ty_nesting (ChanOf t) = 1 + ty_nesting t
  ty_nesting (Tuple tys) = 1 + tys_nesting tys
  ty_nesting _ = 1

  pub tys_nesting : Tys → ℕ
  tys_nesting NoTys = 0
  tys_nesting (MoreTys t tys) = max (ty_nesting t) (tys_nesting tys)

-- at least two
abbrev pub are_several : Tys → Bool
are_several (MoreTys t (MoreTys u tys)) = true
are_several _ = false

-- at least one
abbrev pub are_tys : Tys → Bool
are_tys NoTys = false
are_tys (MoreTys t tys) = true

-- a well-formed type: its tuples have at least two parts
abbrev mutual
  pub is_ty : Ty → Bool
  is_ty (ArrayOf t) = is_ty t
  is_ty (ListOf t) = is_ty t
  is_ty (ChanOf t) = is_ty t
  is_ty (Tuple tys) = are_several tys && are_all_tys tys
  is_ty _ = true

  pub are_all_tys : Tys → Bool
  are_all_tys NoTys = true
  are_all_tys (MoreTys t tys) = is_ty t && are_all_tys tys
