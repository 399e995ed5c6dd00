-- What a writer leaves: the parts went over its list, which it keeps, after those before, where there is room for their counts.
use Rattle.std.specs.Prelude.{◌≡◌, List}
use Rattle.laying.specs.Part.{Part, size_in}
use Rattle.laying.specs.Appends.{Appends, AppendsFitting}
use Rattle.laying.specs.Room.{Room}
use Rattle.laying.specs.declared.Writer.{Writer}

pub record Writes (s r : Writer) (ps : List Part) : Type 0 where
  pub parts : Room (size_in ps) s.laid → Appends s.laid r.laid s.out.now r.out.now ps
  pub list : r.out.ghost_name ≡ s.out.ghost_name

-- the same of the counts, and of the words where all numbers are in the range
pub record WritesFitting (s r : Writer) (ps : List Part) : Type 0 where
  pub parts : Room (size_in ps) s.laid → AppendsFitting s.laid r.laid s.out.now r.out.now ps
  pub list : r.out.ghost_name ≡ s.out.ghost_name
