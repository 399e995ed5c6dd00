-- The room decides between fault 16 and the list.
use Rattle.std.proofs.Common.{sym, ◌∙◌}
use Rattle.solutions.proofs.All.{no_room, room}
use Rattle.solutions.proofs.Search.list_solutions.Goals as goal

pub returns-then-too_short : goal.returns-then-too_short
returns-then-too_short c =
    let h = no_room c.args.self.now.ws.now c.requires.0 c.requires.2 c.args.out.now c.requires.3 (sym c.too_short.ensures ∙ c.if-too_short.true) in
    record { answer = h.0; output = h.1 }

pub returns : goal.returns
returns c =
    let h = room c.args.self.now.ws.now c.requires.0 c.requires.2 c.args.out.now c.requires.3 (sym c.too_short.ensures ∙ c.if-too_short.false) _ c.write_in.ensures.count _ c.write_in.ensures.output in
    record { answer = h.0; output = h.1 }
