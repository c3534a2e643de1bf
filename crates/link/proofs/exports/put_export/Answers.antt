use Rattle.std.proofs.Common.{◌≡◌, ◌∙◌, Some, cond, ap, string_bytes, rules}
use Rattle.std.specs.BTreeMap.{get_by_text}
use Rattle.std.specs.Str.{bytes_eq}
use Rattle.std.proofs.lemmas.Map.Text.{btree_map_updates_text}
use Rattle.link.proofs.exports.put_export.Goals as goal

pub returns : goal.returns
returns g c = λ q.
    let same : string_bytes c.in_ok-name.name ≡ string_bytes c.args.export.now.name = search rules in
    btree_map_updates_text (string_bytes c.in_ok-name.name) c.args.named.now c.insert.new.self _ c.in_ok-insert.ensures.updates q
    ∙ ap (λ bs. cond (bytes_eq bs q) (Some c.args.export.now.desc) (get_by_text c.args.named.now q)) same
