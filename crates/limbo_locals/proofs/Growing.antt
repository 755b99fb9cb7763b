-- What an expression declares where a body has come to: variables, in the innermost scope.
use Rattle.std.proofs.Common.{◌≡◌, ◌<◌, ◌+◌, ◌++◌, ◌∷◌, [], ℕ, ℤ, pos, List, Option, None, Some, length, refl, sym, ap, ◌∙◌, arith}
use Rattle.limbo_types.specs.Types.{Ty, Tys}
use Rattle.limbo_tree.specs.Exprs as tree
use Rattle.limbo_typed.specs.Typed.{Expr, Of, Exprs, Optional, Absent, Items, Read, Pattern, Patterns, Var}
use Rattle.limbo_typed.specs.Sound.{type_of}
use Rattle.limbo_scope.specs.declared.meaning.Meaning.{Meaning}
use Rattle.limbo_scope.specs.declared.meaning.Meaning.TheVariants as meaning
use Rattle.limbo_scope.specs.Scopes.{Scope, declared, entered, left}
use Rattle.limbo_scope.specs.Laws.{declared_all}
use Rattle.limbo_scope.proofs.Stacks.{gives_back}
use Rattle.limbo_context.specs.Context.{Context, Body}
use Rattle.limbo_exprs.specs.limbo_defining.Defining as defining
use Rattle.limbo_exprs.specs.limbo_defining.Defining.{Defines, DefineEach}
use Rattle.limbo_exprs.specs.limbo_things.Things.{Thing, AValue, APrint}
use Rattle.limbo_exprs.specs.limbo_typing.Typing as typing
use Rattle.limbo_exprs.specs.limbo_typing.Typing.{Denotes, HasValue, Types, Has, HaveValues, MayHave, Fill, IsPattern, ArePatterns}
use Rattle.limbo_local.specs.Local.{iota, counting, seeing, seen_behind}

-- These are declared in the innermost scope, a variable each.
pub record Grown (b d : Body) : Type 0 where
  pub names : List (List ℕ × Meaning)
  pub scopes : d.scopes ≡ declared_all names b.scopes
  pub many : length d.variables ≡ length b.variables + length names

pub grown_stays : (b : Body) → Grown b b
grown_stays b = record {
  names = [];
  scopes = refl;
  many = omega arith;
}

pub declared_further : (xs ys : List (List ℕ × Meaning)) (ss : List Scope) → declared_all (xs ++ ys) ss ≡ declared_all ys (declared_all xs
    ss)
declared_further [] ys ss = refl
declared_further (x ∷ xs) ys ss = declared_further xs ys (declared x.0 x.1 ss)

length_both : (xs ys : List (List ℕ × Meaning)) → length (xs ++ ys) ≡ length xs + length ys
length_both [] ys = omega arith
length_both (x ∷ xs) ys = let r : length (xs ++ ys) ≡ length xs + length ys = length_both xs ys in omega arith

pub grown_on : (b d e : Body) → Grown b d → Grown d e → Grown b e
grown_on b d e g h = record {
  names = g.names ++ h.names;
  scopes = h.scopes ∙ ap (declared_all h.names) g.scopes ∙ sym (declared_further g.names h.names b.scopes);
  many =
      let m : length d.variables ≡ length b.variables + length g.names = g.many in
      let n : length e.variables ≡ length d.variables + length h.names = h.many in
      let s : length (g.names ++ h.names) ≡ length g.names + length h.names = length_both g.names h.names in omega arith;
}

one_longer : (vs : List Var) (v : Var) → length (vs ++ v ∷ []) ≡ length vs + 1
one_longer [] v = refl
one_longer (x ∷ xs) v = let r : length (xs ++ v ∷ []) ≡ length xs + 1 = one_longer xs v in omega arith

grown_name : (b : Body) (n : List ℕ) (t : Ty) → Grown b (record {
  scopes = declared n (meaning.Variable (length b.variables)) b.scopes;
  variables = b.variables ++ (record { name = n; ty = t }) ∷ [];
})
grown_name b n t = record {
  names = (n, meaning.Variable (length b.variables)) ∷ [];
  scopes = refl;
  many = one_longer b.variables (record { name = n; ty = t });
}

mutual
  defines : (b : Body) (e : tree.Expr) (t : Ty) (p : Pattern) (d : Body) → Defines b e t p d → Grown b d
  defines _ _ _ _ _ (defining.name b n t f) = grown_name b n t
  defines _ _ _ _ _ (defining.parts b d e f es ts ps h) = define_each b (tree.MoreExprs e (tree.MoreExprs f es)) ts ps d h

  define_each : (b : Body) (es : tree.Exprs) (ts : Tys) (ps : Patterns) (d : Body) → DefineEach b es ts ps d → Grown b d
  define_each _ _ _ _ _ (defining.no_more b) = grown_stays b
  define_each _ _ _ _ _ (defining.nowhere b d t es ts ps h) = define_each b es ts ps d h
  define_each _ _ _ _ _ (defining.and_more b d f e t p es ts ps h k) =
      grown_on b d f (defines b e t p d h) (define_each d es ts ps f k)

module _ (c : Context) where
  mutual
    denotes : (b : Body) (e : tree.Expr) (t : Thing) (d : Body) → Denotes c b e t d → Grown b d
    denotes _ _ _ _ (typing.by_name b n t h) = grown_stays b
    denotes _ _ _ _ (typing.by_member b d e n s t h m) = denotes b e s d h
    denotes _ _ _ _ (typing.by_part b d e n s t h m) = denotes b e s d h
    denotes _ _ _ _ (typing.by_value b d e x p h) = value_grows b e x d h

    pub value_grows : (b : Body) (e : tree.Expr) (x : Expr) (d : Body) → HasValue c b e x d → Grown b d
    value_grows _ _ _ _ (typing.has_value b d e x h n) = types b e x d h

    types : (b : Body) (e : tree.Expr) (x : Expr) (d : Body) → Types c b e x d → Grown b d
    types _ _ _ _ (typing.permitted b d e x h p) = has b e x d h

    has : (b : Body) (e : tree.Expr) (x : Expr) (d : Body) → Has c b e x d → Grown b d
    has _ _ _ _ (typing.of_values b d e es xs z v h f) = row b es xs d h
    has _ _ _ _ (typing.of_path b d e x p h) = denotes b e (AValue x) d h
    has _ _ _ _ (typing.in_parentheses b d e x h) = types b e x d h
    has _ _ _ _ (typing.of_slice b d f g e i j x z u v h k l s) =
        grown_on b f g (grown_on b d f (value_grows b e x d h) (part d i u f k)) (part f j v g l)
    has _ _ _ _ (typing.of_length b d e t u x z h m s) = value_grows b e x d h
    has _ _ _ _ (typing.of_channel b t u z m k) = grown_stays b
    has _ _ _ _ (typing.of_items b d f n is comma u last js z h k l) =
        grown_on b d f (part b n u d h) (fill d (pos 0) Absent is js last f k)
    has _ _ _ _ (typing.of_load b d n e i x z m h l) = value_grows b e x d h
    has _ _ _ _ (typing.of_call b d f g es t xs z h k a) = grown_on b d f (denotes b g t d h) (row d es xs f k)
    has _ _ _ _ (typing.of_print b d f g es others p m text xs ys o z h i k l q) =
        grown_on b d f (denotes b g (APrint p m) d h) (row d others xs f k)
    has _ _ _ _ (typing.of_assignment b d f l r p y z k i n h a) = grown_on b d f (pattern b l p d i) (value_grows d r y f h)
    has _ _ _ _ (typing.of_definition b d f l r p y h s k) = grown_on b d f (value_grows b r y d h) (defines d l (type_of y) p f k)

    row : (b : Body) (es : tree.Exprs) (xs : Exprs) (d : Body) → HaveValues c b es xs d → Grown b d
    row _ _ _ _ (typing.no_values b) = grown_stays b
    row _ _ _ _ (typing.values b d f e es x xs h k) = grown_on b d f (value_grows b e x d h) (row d es xs f k)

    part : (b : Body) (n : tree.Part) (u : Optional) (d : Body) → MayHave c b n u d → Grown b d
    part _ _ _ _ (typing.no_part b) = grown_stays b
    part _ _ _ _ (typing.a_part b d e x h) = value_grows b e x d h

    fill : (b : Body) (n : ℤ) (rest : Optional) (is : tree.Inits) (js : Items) (last : Optional) (d : Body) → Fill c b n rest is js last d
        → Grown b d
    fill _ _ _ _ _ _ _ (typing.no_items b n rest) = grown_stays b
    fill _ _ _ _ _ _ _ (typing.next_item b d f n rest last e is x js h k) =
        grown_on b d f (value_grows b e x d h) (fill d _ rest is js last f k)
    fill _ _ _ _ _ _ _ (typing.item_at b d f g n k rest last i e is y x js h t v l m) =
        grown_on b f g (grown_on b d f (value_grows b i y d h) (value_grows d e x f l)) (fill f _ rest is js last g m)
    fill _ _ _ _ _ _ _ (typing.rest_of b d f n last e is x js h k) = grown_on b d f (value_grows b e x d h) (fill d n _ is js last f k)

    pattern : (b : Body) (e : tree.Expr) (p : Pattern) (d : Body) → IsPattern c b e p d → Grown b d
    pattern _ _ _ _ (typing.to_nothing b) = grown_stays b
    pattern _ _ _ _ (typing.in_one b d e p h) = pattern b e p d h
    pattern _ _ _ _ (typing.to_parts b d e f es ps h) = patterns b (tree.MoreExprs e (tree.MoreExprs f es)) ps d h
    pattern _ _ _ _ (typing.to_place b d e t p n h) = value_grows b e (Of t (Read p)) d h

    patterns : (b : Body) (es : tree.Exprs) (ps : Patterns) (d : Body) → ArePatterns c b es ps d → Grown b d
    patterns _ _ _ _ (typing.no_patterns b) = grown_stays b
    patterns _ _ _ _ (typing.more_patterns b d f e es p ps h k) = grown_on b d f (pattern b e p d h) (patterns d es ps f k)

-- ---- the scopes of constants

none_declared : (names : List (List ℕ × Meaning)) (ss : List Scope) → length names ≡ 0 → declared_all names ss ≡ ss
none_declared [] ss h = refl
none_declared (x ∷ xs) ss h = absurd (omega arith)

pub back : (names : List (List ℕ × Meaning)) (ss : List Scope) → 0 < length ss → left (declared_all names (entered ss)) ≡ ss
back names [] l = absurd (omega arith)
back names (s ∷ outer) l = gives_back names s outer

pub scopes_kept : (c : Context) (b : Body) (k : ℕ) (e : tree.Expr) (x : Expr) (o : Option Meaning) (d : Body) → 0 < length b.scopes
    → HasValue (counting k c) (seeing o c b) e x d → length d.variables ≡ length b.variables → (seen_behind o d).scopes ≡ b.scopes
scopes_kept c b k e x (Some m) d l h many =
    let g = value_grows (counting k c) b e x d h in
    let s : length d.variables ≡ length b.variables + length g.names = g.many in
    g.scopes ∙ none_declared g.names b.scopes (omega arith)
scopes_kept c b k e x None d l h many =
    let g = value_grows (counting k c) (seeing None c b) e x d h in
    ap left g.scopes ∙ back ((iota, meaning.Constant (length c.constants)) ∷ g.names) b.scopes l
