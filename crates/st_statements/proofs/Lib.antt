mod LastLines
