-- What is read of the value of `portintransition`.
use Rattle.source_text.specs.Shown.{numbers_of}
use Rattle.model_text.specs.Forms as F
use Rattle.model_walk.specs.declared.port_rule.PortRuleText.{PortRuleText}

-- the numbers of the tuple, and what the references point to
abbrev pub port_rule_of : PortRuleText → F.PortRuleText
port_rule_of p = record { port = p.port.now; place = numbers_of p.place; rules = p.rules.now }
