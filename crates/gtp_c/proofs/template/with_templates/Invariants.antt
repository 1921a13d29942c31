use Rattle.std.proofs.Common.{◌≡◌, drop, length}
use Rattle.gtp_c.specs.Templates.{AreGoodTemplates, with_each}
use Rattle.gtp_c.proofs.template.with_templates.Given as goal

-- the settings with those that are left are those with all; the access points stay; and those that are left are templates where all are
abbrev pub invariant-loop-template : goal.invariant-loop-template
invariant-loop-template l =
    (with_each (drop l.template-index l.templates) l.settings ≡ with_each l.templates l.fn.config)
    × (length l.settings.config.access_points ≡ length l.fn.config.config.access_points)
    × (AreGoodTemplates (length l.fn.config.config.access_points) l.templates → AreGoodTemplates (length l.fn.config.config.access_points) (drop l.template-index l.templates))
