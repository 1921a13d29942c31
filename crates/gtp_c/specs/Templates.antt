-- Which templates C's are.
use Rattle.std.specs.Prelude.{ℕ, ◌<◌, List, [], ◌∷◌, get_or, take}
use Rattle.std.specs.List.{AllByRecursion}
use Rattle.gtp_machine.specs.Config as machine
use Rattle.gtp_gateway.specs.Settings.{Settings, with_template}
use Rattle.gtp_c.specs.Sessions.{quality_at, IsGoodQuality}
use Rattle.gtp_c.specs.declared.template.Template.{Template}

-- the template of the access point at C's place, with C's quality of service and traffic flow template
abbrev pub template_at : List (List ℕ) → Template → machine.Template
template_at access_points t = record { access_point = get_or access_points t.access_point []; tft = take t.tft_len t.tft; qos = quality_at t.quality }

-- an access point has C's place, where there are so many, and the quality is in its ranges
pub record IsGoodTemplate (count : ℕ) (t : Template) : Type 0 where
  pub access_point : t.access_point < count
  pub quality : IsGoodQuality t.quality

abbrev pub AreGoodTemplates : ℕ → List Template → Type 0
AreGoodTemplates count templates = AllByRecursion (IsGoodTemplate count) templates

-- the settings with each of these templates, one after the other
abbrev pub with_each : List Template → Settings → Settings
with_each [] s = s
with_each (t ∷ ts) s = with_each ts (with_template (template_at s.config.access_points t) s)
