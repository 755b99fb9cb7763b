-- What the cause says of a source that is compiled, from where each cause comes: it was read as a program, or not.
use Rattle.std.proofs.Common.{◌≡◌, ℕ, List, ◌⊎◌, inl, inr, refl, subst, sym, ap, ◌∙◌, true, false}
use Rattle.std.proofs.lemmas.Bool.{false≢true}
use Rattle.std.specs.Prelude.{Option, Some, None}
use Rattle.inf_ports.specs.Outside.{Told, Has, Lacks, Rose}
use Rattle.link_sign.specs.declared.found.Clash.{Clash}
use Rattle.limbo_typed.specs.Typed.{Module}
use Rattle.declared_signs.specs.Declared.{AreToldApart, HasClash}
use Rattle.limbo_tree.specs.Sources.{Source}
use Rattle.source_names.specs.Included.{AreTold}
use Rattle.source_modules.specs.Checked.{IsFirst, IsOther}
use Rattle.inferno_top.specs.Built.{HasObject, HasTree, IsBuilt, IsClashing, IsCompilable, IsModuleFor, IsSourceFor, is_in}
use Rattle.inferno_top.specs.Faults.{IsFault}
use Rattle.inferno_top.specs.Reading.{IsFaulty, HasClashAt, IsRead, IsUnread}
use Rattle.inferno_top.specs.Outcome.{IsClashOf, IsSourceRefusal, IsUnlessMemory, Tells}
use Rattle.inferno_top.specs.declared.cause.Aim.{Aim}
use Rattle.inferno_top.specs.declared.cause.Aim.TheVariants.{Run}
use Rattle.inferno_top.specs.declared.cause.Cause.{Cause}
use Rattle.inferno_top.specs.declared.cause.Cause.TheVariants.{Done, Broke, Usage, BadSource, Clashing, BadObject, Limit, Host, SinkFault}
use Rattle.inferno_top.specs.declared.cause.Cause.TheVariants.{NoMemory}
use Rattle.inferno_top.specs.declared.cause.SourceFault.{SourceFault}
use Rattle.inferno_top.specs.declared.cause.SourceFault.TheVariants.{Unbuilt, NoInit}
use Rattle.inferno_top.proofs.Faults.{faulty, source_fault, checked_fault, unbuilt, no_init}
use Rattle.inferno_top.proofs.Trees.{Laws, tree_of, not_other, one_module}

-- what the files tell of a path is all that it has there
pub same_bytes : (told : Told) (path source other : List ℕ) → Tells told path (Some source) → Has told path other → source ≡ other
same_bytes None path source other tells has = absurd tells
same_bytes (Some files) path source other tells has = let same : Some source ≡ Some other = sym tells ∙ has in cc

pub told_not_lacking : {A : Type 0} (told : Told) (path source : List ℕ) → Tells told path (Some source) → Lacks told path → A
told_not_lacking None path source tells lacks = absurd tells
told_not_lacking (Some files) path source tells lacks = let same : Some source ≡ None = sym tells ∙ lacks in cc

has_not_absent : {A : Type 0} (told : Told) (file source : List ℕ) → Tells told file None → Has told file source → A
has_not_absent None file source tells has = absurd tells
has_not_absent (Some files) file source tells has = let same : None ≡ Some source = sym tells ∙ has in cc

pub are_told : (told : Told) (path : List ℕ) (bytes : Option (List ℕ)) → Tells told path bytes → AreTold told
are_told None path bytes tells = absurd tells
are_told (Some files) path bytes tells = tt

-- one module is another one
same_clash : (m n : Module) (c : Clash) → m ≡ n → HasClash m c → HasClash n c
same_clash m n c same has = subst (λ (z : Module). HasClash z c) same has

module _ (aim : Aim) (told : Told) (file : List ℕ) (before now : ℕ) where
  -- the file was read as a program, or not, for this cause
  abbrev pub Ended : Cause → Type 0
  Ended cause = ((m : Module) × IsRead aim told file m) ⊎ IsUnread aim told file before now cause

  pub ended_by : (cause last : Cause) → Ended cause → (last ≡ cause) ⊎ (last ≡ NoMemory) → Ended last
  ended_by cause last e (inl same) = subst Ended (sym same) e
  ended_by cause last (inl r) (inr memory) = inl r
  ended_by cause last (inr u) (inr memory) = subst Ended (sym memory) (inr tt)

  -- ---- a file that isn't there

  module _ (tells : Tells told file None) (calm : Rose before now → ⊥) where
    pub missing : (cause : Cause) → Ended cause → IsUnlessMemory cause (Host file true)
    missing cause (inl r) = has_not_absent told file r.1.source tells r.1.stands
    missing (BadSource other fault) (inr is) = has_not_absent told file is.source tells is.stands
    missing (Clashing c) (inr is) = has_not_absent told file is.source tells is.stands
    missing (Host path true) (inr is) = inl (ap (λ (f : List ℕ). Host f true) is.0)
    missing (Host path false) (inr is) = absurd (calm is.1)
    missing NoMemory (inr is) = inr refl
    missing Done (inr is) = absurd is
    missing (Broke broken) (inr is) = absurd is
    missing Usage (inr is) = absurd is
    missing (BadObject other fault) (inr is) = absurd is
    missing (Limit quanta) (inr is) = absurd is
    missing (SinkFault out err) (inr is) = absurd is

  -- ---- a file that is told

  module _ (source : List ℕ) (tells : Tells told file (Some source)) where
    built_here : (m : Module) → IsRead aim told file m → IsBuilt aim told file source m
    built_here m r = subst (λ (z : List ℕ). IsBuilt aim told file z m) (sym (same_bytes told file source r.source tells r.stands)) r.built

    fault_here : (other : List ℕ) (fault : SourceFault) → IsFaulty aim told file other fault → IsFault aim told file source other fault
    fault_here other fault is =
        subst (λ (z : List ℕ). IsFault aim told file z other fault) (sym (same_bytes told file source is.source tells is.stands)) is.because

    clash_here : (c : Clash) (is : HasClashAt aim told file c) → IsClashing aim told file source is.checked c
    clash_here c is =
        subst (λ (z : List ℕ). IsClashing aim told file z is.checked c) (sym (same_bytes told file source is.source tells is.stands))
        is.clashing

    pub refused : (Rose before now → ⊥) → ((m : Module) → IsBuilt aim told file source m → ⊥) → (cause : Cause) → Ended cause
        → IsSourceRefusal aim told file source cause
    refused calm none cause (inl r) = absurd (none r.0 (built_here r.0 r.1))
    refused calm none (BadSource other fault) (inr is) = fault_here other fault is
    refused calm none (Clashing c) (inr is) = (is.checked, clash_here c is)
    refused calm none (Host path true) (inr is) = told_not_lacking told file source tells is.1
    refused calm none (Host path false) (inr is) = absurd (calm is.1)
    refused calm none NoMemory (inr is) = tt
    refused calm none Done (inr is) = absurd is
    refused calm none (Broke broken) (inr is) = absurd is
    refused calm none Usage (inr is) = absurd is
    refused calm none (BadObject other fault) (inr is) = absurd is
    refused calm none (Limit quanta) (inr is) = absurd is
    refused calm none (SinkFault out err) (inr is) = absurd is

    module _ (laws : Laws) where
      told_here : AreTold told
      told_here = are_told told file (Some source) tells

      one : (m n : Module) → IsSourceFor aim told file source m → IsSourceFor aim told file source n → m ≡ n
      one m n a b = one_module laws aim told told_here file source m n a b

      -- a program isn't refused, but for want of memory
      pub unrefused : (Rose before now → ⊥) → (m : Module) → IsBuilt aim told file source m → (cause : Cause)
          → IsUnread aim told file before now cause
          → cause ≡ NoMemory
      unrefused calm m b (BadSource other fault) is =
          absurd (faulty laws aim told told_here file source other fault (fault_here other fault is) m b.compilable)
      unrefused calm m b (Clashing c) is =
          let k = clash_here c is in
          absurd (laws.not_both m c (same_clash is.checked m c (one is.checked m k.compilable.is b.compilable.is) k.clash) b.apart)
      unrefused calm m b (Host path true) is = told_not_lacking told file source tells is.1
      unrefused calm m b (Host path false) is = absurd (calm is.1)
      unrefused calm m b NoMemory is = refl
      unrefused calm m b Done is = absurd is
      unrefused calm m b (Broke broken) is = absurd is
      unrefused calm m b Usage is = absurd is
      unrefused calm m b (BadObject other fault) is = absurd is
      unrefused calm m b (Limit quanta) is = absurd is
      unrefused calm m b (SinkFault out err) is = absurd is

      -- what is read is that program
      pub same_read : (m n : Module) → IsBuilt aim told file source m → IsRead aim told file n → n ≡ m
      same_read m n b r = one n m (built_here n r).compilable.is b.compilable.is

      -- ---- what is outside of the part

      module _ (x : Module) (s : IsSourceFor aim told file source x) (beyond : is_in aim x ≡ false) where
        not_outside : {A : Type 0} (m : Module) → IsCompilable aim told file source m → A
        not_outside m b = absurd (false≢true (sym beyond ∙ ap (is_in aim) (one x m s b.is) ∙ b.has.part))

        pub outside : (Rose before now → ⊥) → (cause : Cause) → Ended cause → IsUnlessMemory cause (BadSource file Unbuilt)
        outside calm cause (inl r) = not_outside r.0 (built_here r.0 r.1).compilable
        outside calm (BadSource other fault) (inr is) =
            let k = source_fault laws aim told told_here file source other fault (fault_here other fault is) x s in
            let same = unbuilt laws aim told told_here file s.tree x s.sort fault k.1 beyond in
            inl (ap (λ (z : List ℕ). BadSource z fault) k.0 ∙ ap (λ (z : SourceFault). BadSource file z) same)
        outside calm (Clashing c) (inr is) = not_outside is.checked (clash_here c is).compilable
        outside calm (Host path true) (inr is) = told_not_lacking told file source tells is.1
        outside calm (Host path false) (inr is) = absurd (calm is.1)
        outside calm NoMemory (inr is) = inr refl
        outside calm Done (inr is) = absurd is
        outside calm (Broke broken) (inr is) = absurd is
        outside calm Usage (inr is) = absurd is
        outside calm (BadObject other fault) (inr is) = absurd is
        outside calm (Limit quanta) (inr is) = absurd is
        outside calm (SinkFault out err) (inr is) = absurd is

      -- ---- functions that clash

      module _ (x : Module) (s : IsCompilable aim told file source x) (clash : AreToldApart x → ⊥) where
        pub clashing : (Rose before now → ⊥) → (cause : Cause) → Ended cause → IsClashOf x cause
        clashing calm cause (inl r) =
            let b = built_here r.0 r.1 in
            absurd (clash (subst AreToldApart (one r.0 x b.compilable.is s.is) b.apart))
        clashing calm (BadSource other fault) (inr is) =
            absurd (faulty laws aim told told_here file source other fault (fault_here other fault is) x s)
        clashing calm (Clashing c) (inr is) =
            let k = clash_here c is in same_clash is.checked x c (one is.checked x k.compilable.is s.is) k.clash
        clashing calm (Host path true) (inr is) = told_not_lacking told file source tells is.1
        clashing calm (Host path false) (inr is) = absurd (calm is.1)
        clashing calm NoMemory (inr is) = tt
        clashing calm Done (inr is) = absurd is
        clashing calm (Broke broken) (inr is) = absurd is
        clashing calm Usage (inr is) = absurd is
        clashing calm (BadObject other fault) (inr is) = absurd is
        clashing calm (Limit quanta) (inr is) = absurd is
        clashing calm (SinkFault out err) (inr is) = absurd is

-- ---- modules that are no first ones, to be run

module _ (told : Told) (file : List ℕ) (before now : ℕ) (source : List ℕ) (tells : Tells told file (Some source))
    (calm : Rose before now → ⊥) (laws : Laws) (x : Module) (tree : Source) (has : HasTree source tree)
    (other : IsOther told file tree x) where
  not_first : {A : Type 0} (m : Module) → IsSourceFor Run told file source m → A
  not_first m s =
      let same = tree_of source s.tree tree s.has has in
      let first : IsFirst told file tree m = subst (λ (z : Source). IsFirst told file z m) same s.sort in
      absurd (not_other laws told (are_told told file (Some source) tells) file tree m x first other)

  pub beginless : (cause : Cause) → Ended Run told file before now cause → IsUnlessMemory cause (BadSource file NoInit)
  beginless cause (inl r) =
      not_first r.0 (built_here Run told file before now source tells r.0 r.1).compilable.is
  beginless (BadSource path fault) (inr is) =
      let t = are_told told file (Some source) tells in
      let k = checked_fault laws Run told t file source path fault (fault_here Run told file before now source tells path fault is)
      tree has other.entries other.implemented x other.is in
      let same = no_init laws told t file tree x other fault k.1 in
      inl (ap (λ (z : List ℕ). BadSource z fault) k.0 ∙ ap (λ (z : SourceFault). BadSource file z) same)
  beginless (Clashing c) (inr is) =
      not_first is.checked (clash_here Run told file before now source tells c is).compilable.is
  beginless (Host path true) (inr is) = told_not_lacking told file source tells is.1
  beginless (Host path false) (inr is) = absurd (calm is.1)
  beginless NoMemory (inr is) = inr refl
  beginless Done (inr is) = absurd is
  beginless (Broke broken) (inr is) = absurd is
  beginless Usage (inr is) = absurd is
  beginless (BadObject path fault) (inr is) = absurd is
  beginless (Limit quanta) (inr is) = absurd is
  beginless (SinkFault out err) (inr is) = absurd is
