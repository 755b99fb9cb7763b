-- A source that is refused is no program.
use Rattle.std.proofs.Common.{◌≡◌, ℕ, List, inl, inr, false, refl, subst, sym, ap, ◌∙◌}
use Rattle.std.proofs.lemmas.Bool.{false≢true}
use Rattle.inf_ports.specs.Outside.{Told}
use Rattle.limbo_tree.specs.Sources.{Source}
use Rattle.limbo_typed.specs.Typed.{Module}
use Rattle.typed_lower.specs.Sizes as sizes
use Rattle.limbo_compiler.specs.Limits as limits
use Rattle.limbo_entries.specs.Entries.{Entry}
use Rattle.inferno_top.specs.Built.{HasTree, HasObject, IsCompilable, IsModuleFor, IsSourceFor, is_in}
use Rattle.inferno_top.specs.Faults.{IsBeginless, IsBytesFault, IsTextFault, IsFault, of_bytes, of_text, of_checking, of_tree, IsTreeFault}
use Rattle.inferno_top.specs.declared.cause.Aim.{Aim}
use Rattle.inferno_top.specs.declared.cause.Aim.TheVariants.{Run, Write}
use Rattle.source_names.specs.Included.{AreTold, IsIncluded}
use Rattle.source_names.specs.Laws.{IsNoText}
use Rattle.source_names.proofs.Refused.{no_text_there}
use Rattle.source_modules.specs.Checked.{IsChecked, IsOther}
use Rattle.source_modules.specs.Failing.{Fails}
use Rattle.inferno_top.specs.declared.cause.SourceFault.{SourceFault}
use Rattle.inferno_top.specs.declared.cause.SourceFault.TheVariants.{Lex, Parse, Unchecked, Unbuilt, NoInit, FrameTooLarge, CodeTooLarge}
use Rattle.inferno_top.proofs.Trees.{Laws, tree_of, one_for, not_other, some_of}

-- ---- what is checked has no refusal but that of its module

not_bytes : (source : List ℕ) (fault : SourceFault) → IsBytesFault source fault → (tree : Source) → HasTree source tree → ⊥
not_bytes source (Lex fault) is tree has = is.2 has.tokens has.lexed
not_bytes source (Parse fault span) is tree has = (is.1 has.tokens has.lexed).0 tree has.parsed has.shallow
not_bytes source (Unchecked number span) is tree has = is
not_bytes source Unbuilt is tree has = is
not_bytes source NoInit is tree has = is
not_bytes source FrameTooLarge is tree has = is
not_bytes source CodeTooLarge is tree has = is

no_text_of : (told : Told) (text : List ℕ) (fault : SourceFault) → IsTextFault told text fault → IsNoText told text
no_text_of told text (Lex fault) is = (is.0, is.1, inl (fault, is.2))
no_text_of told text (Parse fault span) is = (is.0, is.1, inr (fault, is.2))
no_text_of told text (Unchecked number span) is = absurd is
no_text_of told text Unbuilt is = absurd is
no_text_of told text NoInit is = absurd is
no_text_of told text FrameTooLarge is = absurd is
no_text_of told text CodeTooLarge is = absurd is

-- the refusal of a checked source is told of it, and is one of its module
pub checked_fault : Laws → (aim : Aim) (told : Told) → AreTold told → (path source file : List ℕ) (fault : SourceFault)
    → IsFault aim told path source file fault
    → (tree : Source) → HasTree source tree → (es : List Entry) (m : ℕ) (x : Module) → IsChecked told path tree es m x
    → (file ≡ path) × IsTreeFault aim told path tree fault
checked_fault laws aim told t path source _ fault (of_bytes _ is) tree has es m x c = absurd (not_bytes source fault is tree has)
checked_fault laws aim told t path source text fault (of_text other _ _ was included is) tree has es m x c =
    let same = tree_of source other tree was has in
    absurd (no_text_there told t path tree text es m (subst (λ (z : Source). IsIncluded told path z.tops text) same included)
    (no_text_of told text fault is) (record { name = c.name; row = c.row; has = c.has; declares = c.declares }))
checked_fault laws aim told t path source file _ (of_checking other _ number span was texts fails) tree has es m x c =
    let same = tree_of source other tree was has in
    absurd (laws.none told path tree number es m x t has.tokens has.parsed (subst (λ (z : Source). Fails told path z number) same fails) c)
checked_fault laws aim told t path source _ fault (of_tree other _ was is) tree has es m x c =
    let same = tree_of source other tree was has in
    (refl, subst (λ (z : Source). IsTreeFault aim told path z fault) same is)

-- ---- programs

no_beginless : Laws → (aim : Aim) (told : Told) → AreTold told → (path : List ℕ) (tree : Source) (x : Module)
    → IsModuleFor aim told path tree x → IsBeginless aim told path tree → ⊥
no_beginless laws Run told t path tree x f is = not_other laws told t path tree x is.0 f is.1
no_beginless laws Write told t path tree x f is = is

module _ (laws : Laws) (aim : Aim) (told : Told) (t : AreTold told) (path : List ℕ) (tree : Source) (x : Module)
    (f : IsModuleFor aim told path tree x) where
  same : (y : Module) → IsModuleFor aim told path tree y → y ≡ x
  same y g = one_for laws aim told t path tree y x g f

  unprogrammed : (fault : SourceFault) → IsTreeFault aim told path tree fault → HasObject aim x → ⊥
  unprogrammed (Lex fault) is p = is
  unprogrammed (Parse fault span) is p = is
  unprogrammed (Unchecked number span) is p = is
  unprogrammed NoInit is p = no_beginless laws aim told t path tree x f is
  unprogrammed Unbuilt is p = false≢true (sym is.2 ∙ ap (is_in aim) (same is.0 is.1) ∙ p.part)
  unprogrammed FrameTooLarge is p = p.within.frames (subst sizes.FrameTooLarge (same is.0 is.1) is.3)
  unprogrammed CodeTooLarge is p = p.within.code (subst limits.CodeTooLarge (same is.0 is.1) is.3)

  -- what is outside of the part has no other refusal
  pub unbuilt : (fault : SourceFault) → IsTreeFault aim told path tree fault → is_in aim x ≡ false → fault ≡ Unbuilt
  unbuilt (Lex fault) is out = absurd is
  unbuilt (Parse fault span) is out = absurd is
  unbuilt (Unchecked number span) is out = absurd is
  unbuilt NoInit is out = absurd (no_beginless laws aim told t path tree x f is)
  unbuilt Unbuilt is out = refl
  unbuilt FrameTooLarge is out = absurd (false≢true (sym out ∙ ap (is_in aim) (sym (same is.0 is.1)) ∙ is.2))
  unbuilt CodeTooLarge is out = absurd (false≢true (sym out ∙ ap (is_in aim) (sym (same is.0 is.1)) ∙ is.2))

-- a module that isn't a first one has no other refusal, where it's to be run
pub no_init : Laws → (told : Told) → AreTold told → (path : List ℕ) (tree : Source) (x : Module) → IsOther told path tree x
    → (fault : SourceFault) → IsTreeFault Run told path tree fault → fault ≡ NoInit
no_init laws told t path tree x o (Lex fault) is = absurd is
no_init laws told t path tree x o (Parse fault span) is = absurd is
no_init laws told t path tree x o (Unchecked number span) is = absurd is
no_init laws told t path tree x o NoInit is = refl
no_init laws told t path tree x o Unbuilt is = absurd (not_other laws told t path tree is.0 x is.1 o)
no_init laws told t path tree x o FrameTooLarge is = absurd (not_other laws told t path tree is.0 x is.1 o)
no_init laws told t path tree x o CodeTooLarge is = absurd (not_other laws told t path tree is.0 x is.1 o)

-- the refusal of a source of this module is one of the module
pub source_fault : Laws → (aim : Aim) (told : Told) → AreTold told → (path source file : List ℕ) (fault : SourceFault)
    → IsFault aim told path source file fault → (m : Module) (s : IsSourceFor aim told path source m)
    → (file ≡ path) × IsTreeFault aim told path s.tree fault
source_fault laws aim told t path source file fault is m s =
    let c = some_of aim told path s.tree m s.sort in
    checked_fault laws aim told t path source file fault is s.tree s.has c.entries c.implemented m c.is

pub faulty : Laws → (aim : Aim) (told : Told) → AreTold told → (path source file : List ℕ) (fault : SourceFault)
    → IsFault aim told path source file fault → (m : Module) → IsCompilable aim told path source m → ⊥
faulty laws aim told t path source file fault is m b =
    let k = source_fault laws aim told t path source file fault is m b.is in
    unprogrammed laws aim told t path b.is.tree m b.is.sort fault k.1 b.has
