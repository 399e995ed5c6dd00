-- The entry, then the link.
use Rattle.std.proofs.Common.{refl, ap, ◌∙◌, List, ℕ, ◌≡◌, ◌≤◌, ◌+◌, ◌-◌, length, arith}
use Rattle.tokens.specs.Unread.{bytes_between}
use Rattle.symbols.specs.Links.{hash, tag}
use Rattle.symbols.specs.Entry.{place_in, tag_in, length_in, named}
use Rattle.symbols.proofs.Grown.{grown}
use Rattle.symbols.proofs.tree.Tree.put.Goals as goal

pub returns : goal.returns
returns c =
    let bs = c.args.text.now in
    let place = c.args.token.place in
    let stop = c.args.token.stop in
    let w = c.entry_of.ensures in
    let back : place + (stop - place) ≡ stop = omega (arith, c.requires.stands.0) in
    let f : place_in c.entry_of.result + length_in c.entry_of.result ≤ length bs = rw (w.0, w.2) (omega (arith, c.requires.stands.0, c.requires.stands.1)) in
    let q : named bs c.entry_of.result ≡ bytes_between bs place stop = rw (w.0, w.2, back) refl in
    let a : tag_in c.entry_of.result ≡ tag (hash (bytes_between bs place stop)) = w.1 ∙ c.tag_of-tag.ensures.0 ∙ ap tag c.hash_of.ensures ∙ ap (λ (z : List ℕ). tag (hash z)) c.bytes.ensures in
    grown c.requires.tree c.requires.free c.requires.room.0 c.entry_of.result f q a
