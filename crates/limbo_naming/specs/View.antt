-- What the code's names stand for.
use Rattle.limbo_tree.specs.View.{view_qual}
use Rattle.limbo_naming.specs.declared.written.Written as code
use Rattle.limbo_naming.specs.declared.written.Written.TheVariants as written
use Rattle.limbo_naming.specs.Qualified.{Qualified, Simple, Member, of_type}

abbrev pub view_written : code.Written → Qualified
view_written (written.Type q) = of_type (view_qual q.now)
view_written (written.Imported source name) = Member (Simple source.now) name.now
