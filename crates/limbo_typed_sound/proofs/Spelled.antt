-- The numbers of an expression are among those of the tokens that spell it.
use Rattle.std.proofs.Common.{ℕ, Bool, true, false, List, Option, None, Some}
use Rattle.limbo_lexer.specs.declared.token.Kind.{Kind}
use Rattle.limbo_tree.specs.Exprs as tree
use Rattle.limbo_tree.specs.Exprs.{spell, spell_part, spell_exprs, spell_more_exprs, spell_init, spell_inits, spell_more_inits, spell_comma}
use Rattle.limbo_tree.specs.Types as types
use Rattle.limbo_tree.specs.Types.{spell_ty, spell_tys, spell_more_tys, spell_qual, spell_member}
use Rattle.limbo_typed.specs.Sound.{Each}
use Rattle.limbo_typed_sound.specs.Proper.{Throughout, ThroughoutPart, ThroughoutAll, ThroughoutInit, ThroughoutInits, IsInRange}
use Rattle.limbo_typed_sound.specs.Proper.{TokenInRange}

abbrev All : List Kind → Type 0
All ts = Each TokenInRange ts

-- ---- types have no numbers

part_of_type : (o : Option (List ℕ)) (ts : List Kind) → All (types.spell_part o ts) → All ts
part_of_type None ts h = h
part_of_type (Some n) ts h = h.1.1

member_of_type : (o : Option (List ℕ)) (ts : List Kind) → All (spell_member o ts) → All ts
member_of_type None ts h = h
member_of_type (Some n) ts h = h.1.1

behind_name : (q : types.Qual) (ts : List Kind) → All (spell_qual q ts) → All ts
behind_name q ts h = part_of_type q.part ts (member_of_type q.member (types.spell_part q.part ts) h.1)

mutual
  behind_type : (t : types.Ty) (ts : List Kind) → All (spell_ty t ts) → All ts
  behind_type types.Byte ts h = h.1
  behind_type types.Int ts h = h.1
  behind_type types.Big ts h = h.1
  behind_type types.String ts h = h.1
  behind_type (types.ArrayOf t) ts h = behind_type t ts h.1.1
  behind_type (types.ListOf t) ts h = behind_type t ts h.1.1
  behind_type (types.ChanOf t) ts h = behind_type t ts h.1.1
  behind_type (types.RefTo q) ts h = behind_name q ts h.1
  behind_type (types.Named q) ts h = behind_name q ts h
  behind_type (types.Tuple us) ts h = (behind_types us _ h.1).1

  behind_types : (us : types.Tys) (ts : List Kind) → All (spell_tys us ts) → All ts
  behind_types types.NoTys ts h = h
  behind_types (types.MoreTys t us) ts h = behind_more_types us ts (behind_type t (spell_more_tys us ts) h)

  behind_more_types : (us : types.Tys) (ts : List Kind) → All (spell_more_tys us ts) → All ts
  behind_more_types types.NoTys ts h = h
  behind_more_types (types.MoreTys t us) ts h = behind_more_types us ts (behind_type t (spell_more_tys us ts) h.1)

-- ---- expressions

behind_comma : (c : Bool) (ts : List Kind) → All (spell_comma c ts) → All ts
behind_comma true ts h = h.1
behind_comma false ts h = h

abbrev Of : tree.Expr → Type 0
Of e = Throughout IsInRange e

mutual
  pub spelled : (e : tree.Expr) (ts : List Kind) → All (spell e ts) → Of e × All ts
  spelled (tree.Assign o l r) ts h =
      let a = spelled l _ h in
      let b = spelled r ts a.1.1 in
      ((tt, a.0, b.0), b.1)
  spelled (tree.Load n e) ts h = let a = spelled e ts h.1.1 in ((tt, a.0), a.1)
  spelled (tree.Binary o l r) ts h =
      let a = spelled l _ h in
      let b = spelled r ts a.1.1 in
      ((tt, a.0, b.0), b.1)
  spelled (tree.Unary o e) ts h = let a = spelled e ts h.1 in ((tt, a.0), a.1)
  spelled (tree.Bytes e) ts h = let a = spelled e ts h.1.1.1 in ((tt, a.0), a.1)
  spelled (tree.Filled n is comma) ts h =
      let a = spelled_part n _ h.1.1 in
      let b = spelled_inits is _ a.1.1.1.1 in
      ((tt, a.0, b.0), (behind_comma comma _ b.1).1)
  spelled (tree.Sized e t) ts h =
      let a = spelled e _ h.1.1 in
      ((tt, a.0), behind_type t ts a.1.1.1)
  spelled (tree.Channel n t) ts h = (tt, behind_type t ts h.1.1)
  spelled (tree.Listed es) ts h = let a = spelled_exprs es _ h.1.1.1 in ((tt, a.0), a.1.1)
  spelled (tree.Call f es) ts h =
      let a = spelled f _ h in
      let b = spelled_exprs es _ a.1.1 in
      ((tt, a.0, b.0), b.1.1)
  spelled (tree.Index e i) ts h =
      let a = spelled e _ h in
      let b = spelled i _ a.1.1 in
      ((tt, a.0, b.0), b.1.1)
  spelled (tree.Slice e i j) ts h =
      let a = spelled e _ h in
      let b = spelled_part i _ a.1.1 in
      let c = spelled_part j _ b.1.1 in
      ((tt, a.0, b.0, c.0), c.1.1)
  spelled (tree.Dot e n) ts h = let a = spelled e _ h in ((tt, a.0), a.1.1.1)
  spelled (tree.Arrow e n) ts h = let a = spelled e _ h in ((tt, a.0), a.1.1.1)
  spelled (tree.Postfix o e) ts h = let a = spelled e _ h in ((tt, a.0), a.1.1)
  spelled (tree.Number v wide) ts h = h
  spelled (tree.Chars s) ts h = h
  spelled (tree.Name n) ts h = h
  spelled tree.Nil ts h = h
  spelled (tree.Group es) ts h = let a = spelled_exprs es _ h.1 in ((tt, a.0), a.1.1)

  spelled_part : (n : tree.Part) (ts : List Kind) → All (spell_part n ts) → ThroughoutPart IsInRange n × All ts
  spelled_part tree.Absent ts h = (tt, h)
  spelled_part (tree.Present e) ts h = spelled e ts h

  spelled_exprs : (es : tree.Exprs) (ts : List Kind) → All (spell_exprs es ts) → ThroughoutAll IsInRange es × All ts
  spelled_exprs tree.NoExprs ts h = (tt, h)
  spelled_exprs (tree.MoreExprs e es) ts h =
      let a = spelled e _ h in
      let b = spelled_more es ts a.1 in
      ((a.0, b.0), b.1)

  spelled_more : (es : tree.Exprs) (ts : List Kind) → All (spell_more_exprs es ts) → ThroughoutAll IsInRange es × All ts
  spelled_more tree.NoExprs ts h = (tt, h)
  spelled_more (tree.MoreExprs e es) ts h =
      let a = spelled e _ h.1 in
      let b = spelled_more es ts a.1 in
      ((a.0, b.0), b.1)

  spelled_init : (i : tree.Init) (ts : List Kind) → All (spell_init i ts) → ThroughoutInit IsInRange i × All ts
  spelled_init (tree.Next e) ts h = spelled e ts h
  spelled_init (tree.At i e) ts h =
      let a = spelled i _ h in
      let b = spelled e ts a.1.1 in
      ((a.0, b.0), b.1)
  spelled_init (tree.Rest e) ts h = spelled e ts h.1.1

  spelled_inits : (is : tree.Inits) (ts : List Kind) → All (spell_inits is ts) → ThroughoutInits IsInRange is × All ts
  spelled_inits tree.NoInits ts h = (tt, h)
  spelled_inits (tree.MoreInits i is) ts h =
      let a = spelled_init i _ h in
      let b = spelled_more_inits is ts a.1 in
      ((a.0, b.0), b.1)

  spelled_more_inits : (is : tree.Inits) (ts : List Kind) → All (spell_more_inits is ts) → ThroughoutInits IsInRange is × All ts
  spelled_more_inits tree.NoInits ts h = (tt, h)
  spelled_more_inits (tree.MoreInits i is) ts h =
      let a = spelled_init i _ h.1 in
      let b = spelled_more_inits is ts a.1 in
      ((a.0, b.0), b.1)
