use Rattle.std.proofs.Common.{Ok, sym, subst}
use Rattle.flatsplitting.specs.declared.Lists.{Lists}
use Rattle.flatsplitting.proofs.Called.{Left, left}
use Rattle.flatsplitting.proofs.Finished as f
use Rattle.flatsplitting.proofs.cut_call.Goals as goal

pub returns-in-OfSum : goal.returns-in-OfSum
returns-in-OfSum c b e =
    let gs = c.args.arguments.now.items in
    f.sum_call c.cut_sum_at.result c.args.model.now c.cut_sum_at.new.model c.args.code gs c.cut_sum_at.new.arguments.items b
    (subst (λ (x : Lists). Left x c.args.code gs b) (sym c.in-OfSum.ensures) (left c.args.code gs b e)) c.cut_sum_at.ensures

pub returns-in-First : goal.returns-in-First
returns-in-First c b e =
    let gs = c.args.arguments.now.items in
    f.list_call c.cut_list_at.result c.args.model.now c.cut_list_at.new.model c.args.code gs c.cut_list_at.new.arguments.items b 0 c.in-First.reading
    (subst (λ (x : Lists). Left x c.args.code gs b) (sym c.in-First.ensures) (left c.args.code gs b e)) c.cut_list_at.ensures

pub returns-in-Second : goal.returns-in-Second
returns-in-Second c b e =
    let gs = c.args.arguments.now.items in
    f.list_call c.cut_list_at-in-Second.result c.args.model.now c.cut_list_at-in-Second.new.model c.args.code gs c.cut_list_at-in-Second.new.arguments.items b 1 c.in-Second.reading
    (subst (λ (x : Lists). Left x c.args.code gs b) (sym c.in-Second.ensures) (left c.args.code gs b e)) c.cut_list_at-in-Second.ensures

pub returns-in_ok-cut_list_at-in-OfClause : goal.returns-in_ok-cut_list_at-in-OfClause
returns-in_ok-cut_list_at-in-OfClause c b e =
    let gs = c.args.arguments.now.items in
    f.clause_call c.cut_list_at-in-OfClause-2.result c.args.model.now c.cut_list_at-in-OfClause-2.new.model c.args.code gs c.cut_list_at-in-OfClause-2.new.arguments.items b
    c.cut_list_at-in-OfClause.new.model c.cut_list_at-in-OfClause.new.arguments.items
    (subst (λ (x : Lists). Left x c.args.code gs b) (sym c.in-OfClause.ensures) (left c.args.code gs b e)) c.in_ok-cut_list_at-in-OfClause.ensures c.cut_list_at-in-OfClause-2.ensures

pub returns-in-Nowhere : goal.returns-in-Nowhere
returns-in-Nowhere c b e =
    let gs = c.args.arguments.now.items in
    f.uncut_call (Ok tt) c.args.model.now c.args.model.now c.args.code gs gs b (subst (λ (x : Lists). Left x c.args.code gs b) (sym c.in-Nowhere.ensures) (left c.args.code gs b e)) e
