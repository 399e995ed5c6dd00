-- What check says of a model or a row system that is in order.
use Rattle.std.specs.Prelude.{List, ℕ, codes, decimal, ◌++◌}
use Rattle.answers.specs.declared.counts.Counts.{Counts}
use Rattle.answers.specs.declared.Style.{Style}
use Rattle.answers.specs.declared.Style.TheVariants.{Text, Json}
use Rattle.answers.specs.Said.{Said, printed_said}

abbrev pub counts_line : Style → Counts → List ℕ
counts_line Text c =
    codes "variables " ++ (decimal c.variables ++ (codes ", constraints " ++ (decimal c.constraints ++ (codes ", auxiliaries " ++ (decimal c.auxiliaries
    ++ (codes ", rows " ++ (decimal c.rows ++ (codes ", words " ++ (decimal c.words ++ codes "\n")))))))))
counts_line Json c =
    codes "{\"answer\":\"accepted\",\"variables\":" ++ (decimal c.variables ++ (codes ",\"constraints\":" ++ (decimal c.constraints
    ++ (codes ",\"auxiliaries\":" ++ (decimal c.auxiliaries ++ (codes ",\"rows\":" ++ (decimal c.rows ++ (codes ",\"words\":" ++ (decimal c.words ++ codes "}\n")))))))))

abbrev pub counts_said : Style → Counts → Said
counts_said style c = printed_said (counts_line style c) 0

abbrev pub in_order_said : Style → Said
in_order_said Text = printed_said (codes "the row system is in order\n") 0
in_order_said Json = printed_said (codes "{\"answer\":\"accepted\"}\n") 0
