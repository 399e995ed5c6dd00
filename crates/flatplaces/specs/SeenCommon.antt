-- What the code's places of variables stand for.
use Rattle.std.specs.Prelude.{List, map, Option, option_map}
use Rattle.flatplaces.specs.declared.places.Place.{Place as Place'}
use Rattle.flatplaces.specs.declared.common.Common.{Common as Common'}
use Rattle.flatplaces.specs.declared.common.Common.TheVariants.{Unseen, Same, Apart}
use Rattle.flatplaces.specs.Place.{Place}
use Rattle.flatplaces.specs.Common.{Common, unseen, same, apart}
use Rattle.flatplaces.specs.Seen.{place}

abbrev pub common_of : Common' → Common
common_of Unseen = unseen
common_of (Same p) = same (place p.now)
common_of Apart = apart

abbrev pub places : List (Option Place') → List (Option Place)
places os = map (option_map place) os
