-- What the code's places stand for.
use Rattle.flatplaces.specs.declared.places.Place.{Place as Place'}
use Rattle.flatplaces.specs.declared.places.Origin.{Origin as Origin'}
use Rattle.flatplaces.specs.Place.{Place, Origin}

abbrev pub place : Place' → Place
place p = record { file = p.file.items; line = p.line }

abbrev pub origin : Origin' → Origin
origin o = record { path = o.path.items; element = o.element }
