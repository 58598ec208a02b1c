-- A page as its struct's fields give it.
use Rattle.page.specs.declared.given.Page.TheInside.{Inside}
use Rattle.page.specs.Page.{Page}

abbrev pub page_of : Inside → Page
page_of g =
    record {
      sides = g.sides;
      dpi = g.dpi;
      xheight = g.xheight;
      settings = g.settings;
      caps = g.caps;
      gray = g.gray.now;
      ink = g.ink.now;
      shear = g.shear.now;
      shear_x = g.shear_x.now;
      pieces = g.pieces.now;
      glyphs = g.glyphs.now;
    }
