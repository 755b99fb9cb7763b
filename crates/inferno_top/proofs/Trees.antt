-- A source has one tree at most, and is one typed module.
use Rattle.std.proofs.Common.{◌≡◌, ℕ, List, false, subst}
use Rattle.inf_ports.specs.Outside.{Told}
use Rattle.limbo_lexer.specs.declared.token.Kind.{Kind}
use Rattle.limbo_lexer.specs.Tokens.{HasTokenList}
use Rattle.limbo_lexer.proofs.Sources.{one_source}
use Rattle.limbo_lexer.proofs.Cutting.{one_token_list}
use Rattle.limbo_tree.specs.Sources.{Source, IsTree}
use Rattle.limbo_parser.proofs.Trees.{one_tree}
use Rattle.limbo_typed.specs.Typed.{Module}
use Rattle.source_names.specs.Included.{AreTold}
use Rattle.limbo_entries.specs.Entries.{Entry}
use Rattle.source_modules.specs.limbo_modules.First.{DeclaresInit}
use Rattle.source_modules.specs.Checked.{IsFirst, IsOther}
use Rattle.source_modules.specs.Laws.{OneChecked, FailsOrChecked}
use Rattle.declared_signs.specs.Laws.{NotBoth}
use Rattle.inferno_top.specs.Built.{HasTokens, HasTree, IsModuleFor, IsSomeModule, IsSourceFor}
use Rattle.inferno_top.specs.declared.cause.Aim.{Aim}
use Rattle.inferno_top.specs.declared.cause.Aim.TheVariants.{Run, Write}

one_tokens : (source : List ℕ) (a b : List Kind) → HasTokens source a → HasTokens source b → a ≡ b
one_tokens source a b x y =
    let text = one_source source x.text y.text x.spelled y.spelled in
    one_token_list y.text a b (subst (λ (s : List ℕ). HasTokenList s a) text x.cut) y.cut

pub tree_of : (source : List ℕ) (t u : Source) → HasTree source t → HasTree source u → t ≡ u
tree_of source t u x y =
    one_tree false y.tokens t u (subst (λ (l : List Kind). IsTree false l t) (one_tokens source x.tokens y.tokens x.lexed y.lexed)
    x.parsed) y.parsed

-- what holds of checked sources, and of the functions that they declare
pub record Laws : Type 0 where
  pub one : OneChecked
  pub none : FailsOrChecked
  pub not_both : NotBoth

pub laws : OneChecked → FailsOrChecked → NotBoth → Laws
laws one none not_both = record { one = one; none = none; not_both = not_both }

-- a module that a tree can be is one that it is
pub some_of : (aim : Aim) (told : Told) (path : List ℕ) (tree : Source) (x : Module) → IsModuleFor aim told path tree x
    → IsSomeModule told path tree x
some_of Run told path tree x f = record { entries = f.entries; implemented = f.implemented; is = f.is }
some_of Write told path tree x f = f

-- a tree is one module at most
pub one_for : Laws → (aim : Aim) (told : Told) → AreTold told → (path : List ℕ) (tree : Source) (x y : Module)
    → IsModuleFor aim told path tree x → IsModuleFor aim told path tree y → x ≡ y
one_for laws aim told t path tree x y f g =
    let a = some_of aim told path tree x f in
    let b = some_of aim told path tree y g in
    (laws.one told path tree a.entries b.entries a.implemented b.implemented x y t a.is b.is).2

-- and where it is a first one, it is no other
pub not_other : Laws → (told : Told) → AreTold told → (path : List ℕ) (tree : Source) (x y : Module) → IsFirst told path tree x
    → IsOther told path tree y → ⊥
not_other laws told t path tree x y a b =
    let same = laws.one told path tree a.entries b.entries a.implemented b.implemented x y t a.is b.is in
    b.begins_not
    (subst (λ (z : Module). DeclaresInit b.entries b.implemented z) same.2
    (subst (λ (z : ℕ). DeclaresInit b.entries z x) same.1
    (subst (λ (z : List Entry). DeclaresInit z a.implemented x) same.0 a.begins)))

-- a source is one module at most
pub one_module : Laws → (aim : Aim) (told : Told) → AreTold told → (path source : List ℕ) (m n : Module)
    → IsSourceFor aim told path source m → IsSourceFor aim told path source n → m ≡ n
one_module laws aim told t path source m n x y =
    let same = tree_of source x.tree y.tree x.has y.has in
    let sort : IsModuleFor aim told path y.tree m = subst (λ (z : Source). IsModuleFor aim told path z m) same x.sort in
    one_for laws aim told t path y.tree m n sort y.sort
