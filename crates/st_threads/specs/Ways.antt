-- How a call continues, with the drawing of its message if it is held, in the code and in the law.
use Rattle.std.specs.Prelude.{◌≡◌, refl}
use Rattle.st_threads.specs.declared.way.CallWay.{CallWay}
use Rattle.st_threads.specs.declared.way.CallWay.TheVariants as ways
use Rattle.st_trace.specs.declared.entry.Way.{Way}
use Rattle.st_trace.specs.declared.entry.Way.TheVariants.{Fast, Barred, Held, Untraced}

-- the way of a call in the law, by its way in the code
abbrev pub drawn_way : CallWay → Way
drawn_way ways.Fast = Fast
drawn_way (ways.Barred n) = Barred n
drawn_way (ways.Held q) = Held q
drawn_way ways.Untraced = Untraced

-- the way of a call in the code, by its way in the law
abbrev pub way_in_code : Way → CallWay
way_in_code Fast = ways.Fast
way_in_code (Barred n) = ways.Barred n
way_in_code (Held q) = ways.Held q
way_in_code Untraced = ways.Untraced

-- the way in the code is got back from that in the law
pub way_again : (way : CallWay) → way_in_code (drawn_way way) ≡ way
way_again ways.Fast = refl
way_again (ways.Barred n) = refl
way_again (ways.Held q) = refl
way_again ways.Untraced = refl
