use Rattle.std.proofs.Common.{◌↔◌, drop}
use Rattle.gtp_c.specs.Templates.{AreGoodTemplates}
use Rattle.gtp_c.proofs.template.are_templates.Given as goal

-- those that are left are all templates where all are
abbrev pub invariant-loop-template : goal.invariant-loop-template
invariant-loop-template l = AreGoodTemplates l.count (drop l.template-index l.templates) ↔ AreGoodTemplates l.count l.templates
