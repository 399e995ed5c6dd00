-- What the code's names of variables stand for.
use Rattle.std.specs.Prelude.{option_map}
use Rattle.flattext.specs.declared.text.Called.{Called as Called'}
use Rattle.flatplaces.specs.Seen.{place}
use Rattle.flattext.specs.Called.{Called}

abbrev pub called : Called' → Called
called c = record { name = c.name.items; labels = c.labels.items; place = option_map place c.place }
