use Rattle.std.proofs.Common.{rules, ◌≡◌, ◌++◌, ap, ◌∙◌, string_bytes}
use Rattle.std.proofs.lemmas.Result.{on_ok_weaker}
use Rattle.hex.specs.Hex.{encode_lower}
use Rattle.object_text.specs.Traffic.{rate_bytes}
use Rattle.journal_lines.specs.Words.{name_word, rate_word}
use Rattle.journal_lines.proofs.Naming.{tunnel_told}
use Rattle.journal_lines.proofs.words.push_tunnel.Goals as goal

pub returns : goal.returns
returns c =
    let t = c.args.tunnel.now in
    let rate : string_bytes c.in_ok-rate.rate ≡ rate_word t.tspec = c.in_ok-rate.ensures ∙ ap encode_lower (c.rate_bytes.ensures ∙ ap rate_bytes c.as_slice.ensures.bytes) in
    let named : string_bytes c.push_name_word.new.text ≡ string_bytes c.write-2.new.self ++ name_word t.attr.name = search rules in
    let route : c.as_slice-3.result.now ≡ t.route = search rules in
    on_ok_weaker c.push_steps.result (λ steps. tunnel_told t (string_bytes c.in_ok-rate.rate) (string_bytes c.in_ok-flags.flags) (string_bytes c.args.text.now) (string_bytes c.write.new.self) (string_bytes c.write-2.new.self)
    (string_bytes c.push_name_word.new.text) (string_bytes c.push_steps.new.text) c.as_slice-3.result.now rate c.in_ok-flags.ensures c.in_ok-write.ensures.bytes c.in_ok-write-2.ensures.bytes named route steps) c.push_steps.ensures
