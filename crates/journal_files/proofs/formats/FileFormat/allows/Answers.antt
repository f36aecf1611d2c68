-- By format.
use Rattle.std.proofs.Common.{◌≡◌, refl, sym, ap, ◌∙◌}
use Rattle.lsr_config.specs.Configs.{Setup}
use Rattle.journal_files.proofs.Allowing.{is_zero, none_rests, rests}
use Rattle.journal_files.proofs.formats.FileFormat.allows.Goals as goal

pub returns-in-Third : goal.returns-in-Third
returns-in-Third c = rw c.in-Third.is (λ _. tt, λ _. refl)

pub returns-in-Second : goal.returns-in-Second
returns-in-Second c =
    rw c.in-Second.is (is_zero c.config.inside.router.label_rest_ms c.args.config.now.router.label_rest_ms (ap (λ (s : Setup). s.router.label_rest_ms) c.config.view_is))

pub returns-in-First : goal.returns-in-First
returns-in-First c =
    let same : c.config.inside.router.label_rest_ms ≡ c.args.config.now.router.label_rest_ms = ap (λ (s : Setup). s.router.label_rest_ms) c.config.view_is in
    rw c.in-First.is (rests c.args.text.now c.args.config.now.router.label_rest_ms (λ e. c.if-config-ne0.true (same ∙ e)))

pub returns-in-First-2 : goal.returns-in-First-2
returns-in-First-2 c =
    let same : c.config.inside.router.label_rest_ms ≡ c.args.config.now.router.label_rest_ms = ap (λ (s : Setup). s.router.label_rest_ms) c.config.view_is in
    rw c.in-First.is (none_rests c.args.text.now c.args.config.now.router.label_rest_ms (sym same ∙ c.if-config-ne0.false) c.names_no_capacity.result c.names_no_capacity.ensures)
