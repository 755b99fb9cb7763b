-- Why a source was not read, by what its parts answered.
use Rattle.std.proofs.Common.{◌≡◌, ◌∙◌, ◌≤◌, ℕ, List, ◌⊎◌, inl, inr, true, false, subst, sym, ap, arith}
use Rattle.std.specs.Prelude.{Some}
use Rattle.inf_ports.specs.Outside.{Told, Has, Lacks, Rose}
use Rattle.limbo_tree.specs.Sources.{Source}
use Rattle.limbo_tree.specs.View.{view_source}
use Rattle.limbo_tree.specs.declared.source.Source as code_source
use Rattle.source_files.specs.Files as files
use Rattle.source_files.specs.Files.{AtPath}
use Rattle.source_files.specs.Reading.{IsReachable}
use Rattle.source_files.specs.declared.fault.FilesFault.{FilesFault}
use Rattle.source_files.specs.declared.fault.FilesFault.TheVariants as files_fault
use Rattle.source_names.specs.Included.{AreTold, AreTexts}
use Rattle.source_names.proofs.Read.{reachable}
use Rattle.source_modules.specs.Failing.{FailsBy}
use Rattle.source_modules.specs.declared.fault.ModuleFault.{ModuleFault}
use Rattle.source_modules.specs.declared.fault.ModuleFault.TheVariants as checking
use Rattle.limbo_typed.specs.Typed.{Module}
use Rattle.inferno_top.specs.Built.{HasTree, IsCompilable}
use Rattle.inferno_top.specs.Faults.{of_bytes, of_text, of_checking, of_tree}
use Rattle.inferno_top.specs.Reading.{IsReadFault, IsTreeReadFault, IsFaultOf, IsUnchecked, IsUnread, itself, included, cause_of_files}
use Rattle.inferno_top.specs.Reading.{cause_of_checking}
use Rattle.inferno_top.specs.Outcome.{Course, IsCause, IsRefusal, IsClashOf}
use Rattle.inferno_command.specs.Words.{named_file}
use Rattle.inferno_top.specs.declared.cause.Cause.{Cause}
use Rattle.inferno_top.specs.declared.cause.Cause.TheVariants.{Done, Broke, Usage, BadSource, Clashing, BadObject, Limit, Host, SinkFault}
use Rattle.inferno_top.specs.declared.cause.Cause.TheVariants.{NoMemory}
use Rattle.inferno_top.specs.declared.cause.Aim.{Aim}
use Rattle.inferno_top.specs.declared.cause.Aim.TheVariants.{Run}
use Rattle.inferno_top.specs.declared.cause.SourceFault.TheVariants.{Lex, Parse}
use Rattle.inferno_top.specs.declared.reading.ReadFault.{ReadFault}

rose_wider : (before middle now : ℕ) → before ≤ middle → Rose middle now → Rose before now
rose_wider before middle now l rose = omega arith

-- a source that is there and is refused by its bytes
pub bytes_unread : (aim : Aim) (told : Told) (path source : List ℕ) (before now : ℕ) (fault : ReadFault) (cause : Cause) → Has told path source
    → IsReadFault source fault → IsFaultOf path fault cause → IsUnread aim told path before now cause
bytes_unread aim told path source before now fault cause stands is (inl memory) = subst (λ (x : Cause). IsUnread aim told path before now x) (sym
    memory) tt
bytes_unread aim told path source before now fault cause stands is (inr of) =
    subst (λ (x : Cause). IsUnread aim told path before now x) (sym of.2)
    (record { source = source; stands = stands; because = of_bytes of.0 (subst (λ (x : ReadFault). IsReadFault source x) of.1 is) })

-- one that is refused by its tree
pub tree_unread : (aim : Aim) (told : Told) (path source : List ℕ) (tree : Source) (before now : ℕ) (fault : ReadFault) (cause : Cause)
    → Has told path source → HasTree source tree → IsTreeReadFault aim told path tree fault → IsFaultOf path fault cause
    → IsUnread aim told path before now cause
tree_unread aim told path source tree before now fault cause stands has is (inl memory) =
    subst (λ (x : Cause). IsUnread aim told path before now x) (sym memory) tt
tree_unread aim told path source tree before now fault cause stands has is (inr of) =
    subst (λ (x : Cause). IsUnread aim told path before now x) (sym of.2)
    (record {
      source = source;
      stands = stands;
      because = of_tree tree of.0 has (subst (λ (x : ReadFault). IsTreeReadFault aim told path tree x) of.1 is);
    })

-- one that isn't checked
pub unchecked_unread : (aim : Aim) (told : Told) (path source : List ℕ) (tree : Source) (before middle now : ℕ) (cause : Cause) → before ≤ middle
    → Has told path source → HasTree source tree → IsUnchecked told path tree middle now cause
    → IsUnread aim told path before now cause
unchecked_unread aim told path source tree before middle now Done l stands has is = absurd is
unchecked_unread aim told path source tree before middle now (Broke broken) l stands has is = absurd is
unchecked_unread aim told path source tree before middle now Usage l stands has is = absurd is
unchecked_unread aim told path source tree before middle now (BadSource file fault) l stands has is =
    record { source = source; stands = stands; because = is aim source has }
unchecked_unread aim told path source tree before middle now (Clashing c) l stands has is = absurd is
unchecked_unread aim told path source tree before middle now (BadObject file fault) l stands has is = absurd is
unchecked_unread aim told path source tree before middle now (Limit quanta) l stands has is = absurd is
unchecked_unread aim told path source tree before middle now (Host file true) l stands has is = absurd is
unchecked_unread aim told path source tree before middle now (Host file false) l stands has is =
    (included source tree file stands has is.0, rose_wider before middle now l is.1)
unchecked_unread aim told path source tree before middle now (SinkFault out err) l stands has is = absurd is
unchecked_unread aim told path source tree before middle now NoMemory l stands has is = tt

-- included texts that are none, or weren't read
pub files_unchecked : (told : Told) (path : List ℕ) (source : code_source.Source) (before now : ℕ) (fault : FilesFault)
    → files.IsRefusal told before now fault → AtPath (IsReachable told path source.tops.items) fault
    → IsUnchecked told path (view_source source) before now (cause_of_files fault)
files_unchecked told path source before now files_fault.NoMemory is at = tt
files_unchecked told path source before now (files_fault.Failed file) is at = (reachable told path source.tops.items file at, is)
files_unchecked told path source before now (files_fault.Lex file fault) is at =
    λ aim bytes has. of_text (view_source source) file (Lex fault) has (reachable told path source.tops.items file at) is
files_unchecked told path source before now (files_fault.Parse file fault span) is at =
    λ aim bytes has. of_text (view_source source) file (Parse fault span) has (reachable told path source.tops.items file at) is

-- names, types or statements that are refused
pub checking_unchecked : (told : Told) (path : List ℕ) (tree : Source) (before now : ℕ) (fault : ModuleFault)
    → (AreTold told → AreTexts told path tree.tops) → FailsBy told path tree fault
    → IsUnchecked told path tree before now (cause_of_checking fault)
checking_unchecked told path tree before now checking.NoMemory texts is = tt
checking_unchecked told path tree before now (checking.Refused number file span) texts is =
    λ aim source has. of_checking tree file number span has texts is

-- a file that the words name to be run, and that isn't read, is refused
pub unread_refused : (words : List (List ℕ)) (told : Told) (path : List ℕ) (before now : ℕ) (cause : Cause) → named_file words ≡ Some path
    → IsUnread Run told path before now cause → IsRefusal words told before now cause
unread_refused words told path before now (BadSource file fault) named is = (path, named, is)
unread_refused words told path before now (Clashing c) named is = (path, named, is)
unread_refused words told path before now (Host file true) named is =
    (named ∙ ap (λ (f : List ℕ). Some f) (sym is.0), subst (λ (f : List ℕ). Lacks told f) (sym is.0) is.1)
unread_refused words told path before now (Host file false) named is = (path, named, is.0, is.1)
unread_refused words told path before now NoMemory named is = tt
unread_refused words told path before now Done named is = absurd is
unread_refused words told path before now (Broke broken) named is = absurd is
unread_refused words told path before now Usage named is = absurd is
unread_refused words told path before now (BadObject file fault) named is = absurd is
unread_refused words told path before now (Limit quanta) named is = absurd is
unread_refused words told path before now (SinkFault out err) named is = absurd is

-- a refusal is a cause
pub refusal_cause : (c : Course) (cause : Cause) → IsRefusal c.words c.told c.files_before c.files_after cause → IsCause c cause
refusal_cause c (BadSource file fault) is = is
refusal_cause c (Clashing clash) is = is
refusal_cause c (Host file true) is = is
refusal_cause c (Host file false) is = is
refusal_cause c NoMemory is = tt
refusal_cause c Usage is = is
refusal_cause c Done is = absurd is
refusal_cause c (Broke broken) is = absurd is
refusal_cause c (BadObject file fault) is = absurd is
refusal_cause c (Limit quanta) is = absurd is
refusal_cause c (SinkFault out err) is = absurd is

-- a read of the first file that failed
pub first_unread : (aim : Aim) (told : Told) (path : List ℕ) (before now : ℕ) (cause : Cause) → Rose before now → (cause ≡ Host path false) ⊎ (cause ≡
    NoMemory)
    → IsUnread aim told path before now cause
first_unread aim told path before now cause rose (inl e) = subst (λ (x : Cause). IsUnread aim told path before now x) (sym e) (itself, rose)
first_unread aim told path before now cause rose (inr e) = subst (λ (x : Cause). IsUnread aim told path before now x) (sym e) tt

-- why functions that clash aren't told apart, of a source that is checked and has an object
pub clash_unread : (aim : Aim) (told : Told) (path source : List ℕ) (before now : ℕ) (m : Module) (cause : Cause) → Has told path source
    → IsCompilable aim told path source m → IsClashOf m cause → IsUnread aim told path before now cause
clash_unread aim told path source before now m (Clashing c) stands has is =
    record { source = source; stands = stands; checked = m; clashing = record { compilable = has; clash = is } }
clash_unread aim told path source before now m NoMemory stands has is = tt
clash_unread aim told path source before now m Done stands has is = absurd is
clash_unread aim told path source before now m (Broke broken) stands has is = absurd is
clash_unread aim told path source before now m Usage stands has is = absurd is
clash_unread aim told path source before now m (BadSource file fault) stands has is = absurd is
clash_unread aim told path source before now m (BadObject file fault) stands has is = absurd is
clash_unread aim told path source before now m (Limit quanta) stands has is = absurd is
clash_unread aim told path source before now m (Host file missing) stands has is = absurd is
clash_unread aim told path source before now m (SinkFault out err) stands has is = absurd is
